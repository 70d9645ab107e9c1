-- Lists that are related place by place.
use Rattle.std.proofs.Common.{◌≡◌, ◌<◌, ℕ, zero, suc, List, [], ◌∷◌, Some, arith, ap, length, get_or, refl, subst}
use Rattle.std.specs.Prelude.{slice_get}
use Rattle.std.proofs.lemmas.Option.{none-some}
use Rattle.std.specs.List.{AllZip}

-- they are as long
pub zip_length : {A B : Type 0} (R : A → B → Type 0) (xs : List A) (ys : List B) → AllZip R xs ys → length ys ≡ length xs
zip_length R [] [] zip = refl
zip_length R [] (y ∷ ys) zip = absurd zip
zip_length R (x ∷ xs) [] zip = absurd zip
zip_length R (x ∷ xs) (y ∷ ys) zip = ap suc (zip_length R xs ys zip.1)

-- what is related at one place
pub zip_at : {A B : Type 0} (R : A → B → Type 0) (xs : List A) (ys : List B) (i : ℕ) (x : A) (y : B) → AllZip R xs ys → i < length ys
    → R (get_or xs i x) (get_or ys i y)
zip_at R [] [] i x y zip below = absurd (omega (arith, below))
zip_at R [] (b ∷ ys) i x y zip below = absurd zip
zip_at R (a ∷ xs) [] i x y zip below = absurd zip
zip_at R (a ∷ xs) (b ∷ ys) zero x y zip below = zip.0
zip_at R (a ∷ xs) (b ∷ ys) (suc i) x y zip below = zip_at R xs ys i x y zip.1 (omega (arith, below))

-- lists that are as long, and related at each place
pub zip_each : {A B : Type 0} (R : A → B → Type 0) (xs : List A) (ys : List B) → length ys ≡ length xs
    → ((i : ℕ) (x : A) (y : B) → i < length xs → R (get_or xs i x) (get_or ys i y)) → AllZip R xs ys
zip_each R [] [] many each = tt
zip_each R [] (y ∷ ys) many each = absurd (omega (arith, many))
zip_each R (x ∷ xs) [] many each = absurd (omega (arith, many))
zip_each R (x ∷ xs) (y ∷ ys) many each = (
  each 0 x y (omega arith),
  zip_each R xs ys (omega (arith, many)) (λ i a b below. each (suc i) a b (omega (arith, below))),
)

-- what each element is related to by itself
pub zip_same : {A : Type 0} (R : A → A → Type 0) → ((x : A) → R x x) → (xs : List A) → AllZip R xs xs
zip_same R same [] = tt
zip_same R same (x ∷ xs) = (same x, zip_same R same xs)

-- what two relations, one after the other, come to
pub zip_on : {A B C : Type 0} (R : A → B → Type 0) (S : B → C → Type 0) (T : A → C → Type 0)
    → ((x : A) (y : B) (z : C) → R x y → S y z → T x z) → (xs : List A) (ys : List B) (zs : List C)
    → AllZip R xs ys → AllZip S ys zs → AllZip T xs zs
zip_on R S T both [] [] [] first second = tt
zip_on R S T both [] [] (z ∷ zs) first second = absurd second
zip_on R S T both [] (y ∷ ys) zs first second = absurd first
zip_on R S T both (x ∷ xs) [] zs first second = absurd first
zip_on R S T both (x ∷ xs) (y ∷ ys) [] first second = absurd second
zip_on R S T both (x ∷ xs) (y ∷ ys) (z ∷ zs) first second =
    (both x y z first.0 second.0, zip_on R S T both xs ys zs first.1 second.1)

-- what an element is related to, from either side
pub zip_right : {A B : Type 0} (R : A → B → Type 0) (xs : List A) (ys : List B) (i : ℕ) (x : A) → AllZip R xs ys → slice_get xs i ≡ Some x
    → (y : B) × (slice_get ys i ≡ Some y) × R x y
zip_right R [] [] i x zip there = absurd (none-some x there)
zip_right R [] (b ∷ ys) i x zip there = absurd zip
zip_right R (a ∷ xs) [] i x zip there = absurd zip
zip_right R (a ∷ xs) (b ∷ ys) zero x zip there = (b, refl, subst (λ z. R z b) (cc there) zip.0)
zip_right R (a ∷ xs) (b ∷ ys) (suc i) x zip there = zip_right R xs ys i x zip.1 there

pub zip_left : {A B : Type 0} (R : A → B → Type 0) (xs : List A) (ys : List B) (i : ℕ) (y : B) → AllZip R xs ys → slice_get ys i ≡ Some y
    → (x : A) × (slice_get xs i ≡ Some x) × R x y
zip_left R [] [] i y zip there = absurd (none-some y there)
zip_left R [] (b ∷ ys) i y zip there = absurd zip
zip_left R (a ∷ xs) [] i y zip there = absurd zip
zip_left R (a ∷ xs) (b ∷ ys) zero y zip there = (a, refl, subst (R a) (cc there) zip.0)
zip_left R (a ∷ xs) (b ∷ ys) (suc i) y zip there = zip_left R xs ys i y zip.1 there
