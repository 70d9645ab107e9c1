-- Lists that a loop over the places makes.
use Rattle.std.proofs.Common.{◌≡◌, ℕ, ◌+◌, List, ◌++◌, ◌∷◌, [], map, ap₂, ◌∙◌, sym, arith}
use Rattle.std.specs.List.{range_with_len}
use Rattle.std.proofs.lemmas.List.FromFn.{map-range_with_len_more}

-- what is made for so many places, and for the next one after them, is made for one place more
pub one_place_more : {X : Type 0} (f : ℕ → X) (n : ℕ) (xs more : List X) (x : X)
    → xs ≡ map f (range_with_len 0 n) → x ≡ f n → more ≡ xs ++ x ∷ [] → more ≡ map f (range_with_len 0 (n + 1))
one_place_more {X} f n xs more x before here pushed =
    pushed ∙ ap₂ (λ (ys : List X) (y : X). ys ++ y ∷ []) before here ∙ sym (map-range_with_len_more f 0 n n (omega arith))
