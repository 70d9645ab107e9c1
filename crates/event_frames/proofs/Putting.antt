-- A list with something at a place of it, or after its end.
use Rattle.std.proofs.Common.{◌≡◌, ℕ, ◌+◌, ◌<◌, ◌≤◌, List, [], ◌∷◌, ◌++◌, length, get_or, set, map, arith}
use Rattle.std.specs.Prelude.{nat_lt}
use Rattle.std.proofs.lemmas.Bool.{cases_order, cond_both, cond-true, cond-false, lt-ltb, le-ltb, ltb-true, ltb-false}
use Rattle.std.proofs.lemmas.List.{get_or_past, get_or_append_left, get_or-set_other, length-set, length-map, length_push, map-set, map-append, set_at}
use Rattle.event_frames.specs.{put_at}

-- how long a list is with something at a place of it, or after its end
pub length-put_at : {X : Type 0} (xs : List X) (k : ℕ) (x : X) → k ≤ length xs
    → (length xs ≤ length (put_at xs k x)) × (length (put_at xs k x) ≤ length xs + 1) × (k < length (put_at xs k x))
    × (length xs ≤ k → length (put_at xs k x) ≡ length xs + 1) × (k < length xs → length (put_at xs k x) ≡ length xs)
length-put_at {X} xs k x within = grind (arith, cond_both, ltb-true, length-set, ltb-false, length_push)

-- at another place it reads as before
pub get_or-put_at : {X : Type 0} (xs : List X) (k j : ℕ) (x d : X) → k ≤ length xs → (j ≡ k → ⊥)
    → get_or (put_at xs k x) j d ≡ get_or xs j d
get_or-put_at {X} xs k j x d within other =
    grind (arith, cond_both, get_or-set_other, ltb-false, get_or_append_left, cases_order, length_push, get_or_past)

-- after the last one it is put there
pub put_at-behind : {X : Type 0} (xs : List X) (k : ℕ) (x : X) → k ≡ length xs → put_at xs k x ≡ xs ++ x ∷ []
put_at-behind xs k x is = cond-false (nat_lt k (length xs)) (set xs k x) (xs ++ x ∷ []) (le-ltb k (length xs) (omega (arith, is)))

-- within it is written there
pub put_at-within : {X : Type 0} (xs : List X) (k : ℕ) (x : X) → k < length xs → put_at xs k x ≡ set xs k x
put_at-within xs k x there = cond-true (nat_lt k (length xs)) (set xs k x) (xs ++ x ∷ []) (lt-ltb k (length xs) there)

-- a function of each element of it
pub put_at-map : {X Y : Type 0} (f : X → Y) (xs : List X) (k : ℕ) (x : X) → put_at (map f xs) k (f x) ≡ map f (put_at xs k x)
put_at-map {X} {Y} f xs k x = grind (arith, length-map, cond_both, cond-true, map-set, cond-false, map-append)

-- what is pushed first, and written then
pub put_pushed : {X : Type 0} (xs ys : List X) (k : ℕ) (x y : X) → k ≡ length xs → ys ≡ xs ++ y ∷ [] → set ys k x ≡ put_at xs k x
put_pushed {X} xs ys k x y is pushed = grind (arith, set_at, put_at-behind)
