-- The elements of lists and of mapped lists.
use Rattle.std.proofs.Common.{◌≡◌, ℕ, zero, suc, ◌<◌, List, [], ◌∷◌, length, get_or, map, refl, arith}
use Rattle.std.proofs.lemmas.List.{length-map}

-- an element of a list
pub element : {A : Type 0} (xs : List A) (i : ℕ) → i < length xs → A
element [] i few = absurd (omega arith)
element (x ∷ xs) zero few = x
element (x ∷ xs) (suc i) few = element xs i (omega arith)

-- an element of a mapped list
pub mapped_at : {A B : Type 0} (f : A → B) (xs : List A) (i : ℕ) (d : A) (e : B) → i < length xs
    → get_or (map f xs) i e ≡ f (get_or xs i d)
mapped_at f [] i d e few = absurd (omega arith)
mapped_at f (x ∷ xs) zero d e few = refl
mapped_at f (x ∷ xs) (suc i) d e few = mapped_at f xs i d e (omega arith)

-- the length of a mapped list
pub mapped_length : {A B : Type 0} (f : A → B) (xs : List A) → length (map f xs) ≡ length xs
mapped_length f xs = simp length-map
