-- What one more piece of a file adds to what was read of it before.
use Rattle.std.proofs.Common.{◌≡◌, ℕ, ◌+◌, List, [], ◌++◌, length, take, drop, refl, ap, ◌∙◌, length-append}
use Rattle.std.proofs.Math.Seq.{take-add}
use Rattle.std.specs.Prelude.{⊤}
use Rattle.byte_io.specs.{FileTold, Untold, Missing, Holds, HasAt}

-- these bytes were read of a file, from its front on; of one that is missing, none
abbrev pub IsRead : FileTold → List ℕ → Type 0
IsRead Untold bytes = ⊤
IsRead Missing bytes = bytes ≡ []
IsRead (Holds all) bytes = take (length bytes) all ≡ bytes

-- nothing was read yet
pub IsRead-nil : (file : FileTold) → IsRead file []
IsRead-nil Untold = tt
IsRead-nil Missing = refl
IsRead-nil (Holds all) = refl

-- two pieces, one after the other
pub IsRead-append : (file : FileTold) (xs ys : List ℕ) → IsRead file xs → HasAt file (length xs) ys → IsRead file (xs ++ ys)
IsRead-append Untold xs ys before piece = tt
IsRead-append Missing xs ys before piece = absurd piece
IsRead-append (Holds all) xs ys before piece =
    ap (λ n. take n all) (length-append xs ys) ∙ take-add (length xs) (length ys) all
    ∙ ap (λ l. l ++ take (length ys) (drop (length xs) all)) before ∙ ap (λ l. xs ++ l) piece
