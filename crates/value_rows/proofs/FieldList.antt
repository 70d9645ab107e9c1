-- Lemmas on the fields of a record.
use Rattle.std.proofs.Common.{◌≡◌, ℕ, zero, suc, ◌<◌, List, [], ◌∷◌, Some, None, length, arith}
use Rattle.csv.specs.Records.{field_at}

-- a field is there, since its place is below the number of fields
pub field_there : (fields : List (List ℕ)) (i : ℕ) → field_at fields i ≡ None → i < length fields → ⊥
unfolding field_at
field_there [] i gone below = omega arith
field_there (f ∷ fields) zero gone below = absurd (cc)
field_there (f ∷ fields) (suc i) gone below = field_there fields i gone (omega arith)

-- the fields of a record of two
pub two_fields : (fields : List (List ℕ)) (a b : List ℕ) → length fields ≡ 2 → Some a ≡ field_at fields 0 → Some b ≡ field_at fields 1
    → fields ≡ a ∷ b ∷ []
unfolding field_at
two_fields [] a b len first second = absurd (omega arith)
two_fields (x ∷ []) a b len first second = absurd (omega arith)
two_fields (x ∷ y ∷ []) a b len first second = cc
two_fields (x ∷ y ∷ z ∷ fields) a b len first second = absurd (omega arith)

-- of a record of three
pub three_fields : (fields : List (List ℕ)) (a b c : List ℕ) → length fields ≡ 3 → Some a ≡ field_at fields 0 → Some b ≡ field_at fields 1
    → Some c ≡ field_at fields 2 → fields ≡ a ∷ b ∷ c ∷ []
unfolding field_at
three_fields [] a b c len first second third = absurd (omega arith)
three_fields (x ∷ fields) a b c len first second third =
    let tail = two_fields fields b c (omega arith) second third in
    cc

-- of a record of four
pub four_fields : (fields : List (List ℕ)) (a b c d : List ℕ) → length fields ≡ 4 → Some a ≡ field_at fields 0
    → Some b ≡ field_at fields 1 → Some c ≡ field_at fields 2 → Some d ≡ field_at fields 3 → fields ≡ a ∷ b ∷ c ∷ d ∷ []
unfolding field_at
four_fields [] a b c d len first second third fourth = absurd (omega arith)
four_fields (x ∷ fields) a b c d len first second third fourth =
    let tail = three_fields fields b c d (omega arith) second third fourth in
    cc
