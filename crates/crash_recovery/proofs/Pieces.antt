-- Bytes at a place that two images share.
use Rattle.std.proofs.Common.{◌≡◌, ℕ, ◌+◌, ◌<◌, ◌≤◌, List, [], ◌∷◌, length, get_or, take, drop, sym, ◌∙◌, ap, arith, length-take, length-drop, add-zero}
use Rattle.std.proofs.lemmas.List.{get_or-take, get_or-drop}
use Rattle.disk_model.specs.{written}
use Rattle.disk_model.proofs.Bytes.{holds_same, holds_written}

-- bytes that agree at each of n places hold the same there
pub same_piece : (at n : ℕ) (a b : List ℕ) → at + n ≤ length a → at + n ≤ length b
    → ((i : ℕ) → at ≤ i → i < at + n → get_or b i 0 ≡ get_or a i 0) → take n (drop at b) ≡ take n (drop at a)
same_piece at n a b a_long b_long same =
    let size : length (take n (drop at a)) ≡ n = omega (arith, length-take n (drop at a), length-drop at a) in
    ap (λ m. take m (drop at b)) (sym size)
    ∙ holds_same at (take n (drop at a)) b a (omega (arith, size)) (omega (arith, size))
    (λ i low below. same i low (omega (arith, size, below))) (ap (λ m. take m (drop at a)) size)

-- one byte that was written is there
pub byte_written : (old : List ℕ) (at b : ℕ) → at ≤ length old → get_or (written old at (b ∷ [])) at 0 ≡ b
byte_written old at b le =
    let new = written old at (b ∷ []) in
    let first : get_or (take 1 (drop at new)) 0 0 ≡ b = ap (λ l. get_or l 0 0)
    (holds_written old at (b ∷ []) le) in
    sym (get_or-take 1 (drop at new) 0 0 (omega arith) ∙ get_or-drop at new 0 0 ∙ ap (λ i. get_or new i 0)
    (add-zero at)) ∙ first
