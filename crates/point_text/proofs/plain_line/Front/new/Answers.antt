use Rattle.std.proofs.Common.{◌≡◌, ℕ, List, [], ◌∷◌, arith, refl}
use Rattle.core.specs.Dec2flt.Digits.{IsEightBytes}
use lib.Lanes.{number_l}
use Rattle.point_text.proofs.plain_line.Front.new.Goals as goal

-- the bytes of the word are eight zeros
zeros_are : (bytes : List ℕ) → IsEightBytes bytes → 0x3030_3030_3030_3030 ≡ number_l 256 bytes → bytes ≡ 48 ∷ 48 ∷ 48 ∷ 48 ∷ 48 ∷ 48 ∷ 48 ∷ 48 ∷ []
zeros_are [] eight is = absurd (omega arith)
zeros_are (a ∷ []) eight is = absurd (omega arith)
zeros_are (a ∷ b ∷ []) eight is = absurd (omega arith)
zeros_are (a ∷ b ∷ c ∷ []) eight is = absurd (omega arith)
zeros_are (a ∷ b ∷ c ∷ d ∷ []) eight is = absurd (omega arith)
zeros_are (a ∷ b ∷ c ∷ d ∷ e ∷ []) eight is = absurd (omega arith)
zeros_are (a ∷ b ∷ c ∷ d ∷ e ∷ f ∷ []) eight is = absurd (omega arith)
zeros_are (a ∷ b ∷ c ∷ d ∷ e ∷ f ∷ g ∷ []) eight is = absurd (omega arith)
zeros_are (a ∷ b ∷ c ∷ d ∷ e ∷ f ∷ g ∷ h ∷ i ∷ more) eight is = absurd (omega arith)
zeros_are (a ∷ b ∷ c ∷ d ∷ e ∷ f ∷ g ∷ h ∷ []) eight is =
    let a48 : a ≡ 48 = omega arith in
    let b48 : b ≡ 48 = omega arith in
    let c48 : c ≡ 48 = omega arith in
    let d48 : d ≡ 48 = omega arith in
    let e48 : e ≡ 48 = omega arith in
    let f48 : f ≡ 48 = omega arith in
    let g48 : g ≡ 48 = omega arith in
    let h48 : h ≡ 48 = omega arith in
    rw (a48, b48, c48, d48, e48, f48, g48, h48) refl

pub invariant_of-result : goal.invariant_of-result
invariant_of-result c = grind (arith, zeros_are)
