-- Items of a list, by their places.
use Rattle.std.proofs.Common.{◌≡◌, ℕ, suc, zero, ◌+◌, ◌-◌, ◌<◌, ◌≤◌, List, [], ◌∷◌, length, get_or, refl, arith, length-drop, length-take}
use Rattle.std.specs.Prelude.{IsSomeAnd, Any, slice_get, slice_range, take}
use Rattle.std.proofs.lemmas.Grind.{common_steps}

-- what holds of the item at a place is found there
pub found_at : {A : Type 0} (P : A → Type 0) (xs : List A) (i : ℕ) (d : A) → i < length xs → P (get_or xs i d)
    → IsSomeAnd (slice_get xs i) P
found_at P [] i d within here = absurd (omega arith)
found_at P (a ∷ xs) zero d within here = here
found_at P (a ∷ xs) (suc i) d within here = found_at P xs i d (omega arith) here

-- the item at a place, whatever the default past the end
pub same_item : {A : Type 0} (xs : List A) (i : ℕ) (d e : A) → i < length xs → get_or xs i d ≡ get_or xs i e
same_item [] i d e within = absurd (omega arith)
same_item (a ∷ xs) zero d e within = refl
same_item (a ∷ xs) (suc i) d e within = same_item xs i d e (omega arith)

-- an item of which something holds
pub any_at : {A : Type 0} (P : A → Type 0) (xs : List A) (i : ℕ) (d : A) → i < length xs → P (get_or xs i d) → Any P xs
any_at P xs i d within here = (i, get_or xs i d, within, same_item xs i _ d within, here)

-- an item of a part comes before the end of the part
pub any_of_range : {A : Type 0} (P : A → Type 0) (xs : List A) (a b : ℕ) → a ≤ b → b ≤ length xs → Any P (slice_range xs a b)
    → Any P (take b xs)
any_of_range P xs a b order within (k, x, few, is, here) =
    let there : k < b - a = omega (arith, simp (length-take, length-drop) at few) in
    let place : a + k < length (take b xs) = simp length-take (omega arith) in
    let same : get_or (take b xs) (a + k) x ≡ x = grind (arith, common_steps, is) in
    (a + k, x, place, same, here)
