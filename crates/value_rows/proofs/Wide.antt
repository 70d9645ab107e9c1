-- Lemmas on records that agree up to a wide one: the same rows are read of them, or they are refused for the same reason.
use Rattle.std.proofs.Common.{◌≡◌, inl, inr, ℕ, suc, ◌+◌, ◌-◌, ◌<◌, ◌≤◌, true, false, List, [], ◌∷◌, ◌++◌, Result, Ok, Err, length, map, take, drop, take-add, take_at, drop_at, nat_lt, refl, sym, ap, ◌∙◌, append_assoc, length-append, subst}
use Rattle.std.proofs.Common.{arith, ltb-true, ltb-false}
use Rattle.std.proofs.lemmas.Bool.Decides.{nat_tests}
use Rattle.std.proofs.lemmas.List.{map-append, take-append-le}
use Rattle.trend_num.specs.{Reason}
use Rattle.trend_num.specs.declared.refusal.Reason.TheVariants.{Fields}
use Rattle.point_text.specs.{RowNo, all_rows, unless_more, with_first}
use Rattle.value_rows.specs.{AgreeUpToWide, IsWide, RefusesWide, rows_read, text_records_of, ReadsRecords, reads_behind}

-- the first bad one of some reads is the same, whatever follows one that is bad
first_bad : {R : Type 0} (front : List (Result R Reason)) (why : Reason)
    → (bad : ℕ × Reason) × ((after : List (Result R Reason)) → all_rows (front ++ Err why ∷ after) ≡ Err bad)
first_bad [] why = ((1, why), λ after. refl)
first_bad (Err reason ∷ front) why = ((1, reason), λ after. refl)
first_bad (Ok r ∷ front) why =
    let (bad, is) = first_bad front why in
    ((bad.0 + 1, bad.1), λ after. ap (with_first r) (is after))

-- the first ones of a list, up to one in the middle and beyond
taken_beyond : {A : Type 0} (front : List A) (x : A) (after : List A) (most : ℕ) → length front < most
    → take most (front ++ x ∷ after) ≡ front ++ x ∷ take (most - suc (length front)) after
taken_beyond front x after most room =
    let k = most - suc (length front) in
    let split : most ≡ length front + suc k = omega arith in
    ap (λ n. take n (front ++ x ∷ after)) split ∙ take-add (length front) (suc k) (front ++ x ∷ after)
    ∙ ap (λ l. l ++ take (suc k) (drop (length front) (front ++ x ∷ after))) (take_at front (x ∷ after) (length front) refl)
    ∙ ap (λ l. front ++ take (suc k) l) (drop_at front (x ∷ after) (length front) refl)

-- more rows than there may be
more_rows : {A : Type 0} (most : ℕ) (front : List A) (x : A) (after : List A) → most ≤ length front → nat_lt most (length (front ++ x ∷ after)) ≡ true
more_rows most front x after full = grind (arith, length-append, nat_tests)

-- they are refused, unless an earlier one is bad
too_many : {R : Type 0} (most m n : ℕ) (rows : Result (List R) (ℕ × Reason)) → nat_lt most m ≡ true → nat_lt most n ≡ true
    → unless_more most m rows ≡ unless_more most n rows
too_many most m n (Err bad) more also = refl
too_many most m n (Ok rows) more also = rw (more, also) refl

-- what follows a bad read counts for nothing
pub behind_bad : {R : Type 0} (most : ℕ) (front : List (Result R Reason)) (why : Reason) (a b : List (Result R Reason))
    → rows_read most (front ++ Err why ∷ a) ≡ rows_read most (front ++ Err why ∷ b)
behind_bad {R} most front why a b =
    elim (nat_lt (length front) most) as (λ t. nat_lt (length front) most ≡ t
    → rows_read most (front ++ Err why ∷ a) ≡ rows_read most (front ++ Err why ∷ b)) [
      | true ↦ λ t. let room : length front < most = ltb-true _ _ t in read_bad a room ∙ sym (read_bad b room)
      | false ↦ λ t. let full : most ≤ length front = ltb-false _ _ t in
          read_full a full ∙ too_many most _ _ (all_rows (take most front)) (more_rows most front (Err why) a full) (more_rows most front (Err why) b full)
          ∙ sym (read_full b full)
    ] refl
  where
    bad : ℕ × Reason
    bad = (first_bad front why).0

    read_bad : (after : List (Result R Reason)) → length front < most
        → rows_read most (front ++ Err why ∷ after) ≡ unless_more most 0 (Err bad)
    read_bad after room = grind (arith, taken_beyond, first_bad)

    read_full : (after : List (Result R Reason)) → most ≤ length front
        → rows_read most (front ++ Err why ∷ after) ≡ unless_more most (length (front ++ Err why ∷ after)) (all_rows (take most front))
    read_full after full = grind (arith, take-append-le)

-- how records are read that are refused if they are wide
module _ {R : Type 0} (row_of : ReadsRecords R) (refuses : RefusesWide row_of) where
  -- a wide record is refused
  wide_refused : (fields : List (List ℕ)) → IsWide fields → row_of fields ≡ Err Fields
  wide_refused [] wide = absurd (omega (arith, wide))
  wide_refused (a ∷ []) wide = absurd (omega (arith, wide))
  wide_refused (a ∷ b ∷ []) wide = absurd (omega (arith, wide))
  wide_refused (a ∷ b ∷ c ∷ []) wide = absurd (omega (arith, wide))
  wide_refused (a ∷ b ∷ c ∷ d ∷ []) wide = absurd (omega (arith, wide))
  wide_refused (a ∷ b ∷ c ∷ d ∷ e ∷ more) wide = refuses a b c d e more

  -- what is read of records up to a wide one, and behind it
  reads_upto : (front : List R) (all before after : List (List (List ℕ))) (wide : List (List ℕ)) → all ≡ before ++ wide ∷ after → IsWide wide
      → map (λ r. Ok r) front ++ map row_of all ≡ (map (λ r. Ok r) front ++ map row_of before) ++ Err Fields ∷ map row_of after
  reads_upto front all before after wide is is_wide = grind (arith, map-append, wide_refused, append_assoc)

  -- the same is read of a text, and of one whose records agree with its records up to a wide one
  rows_agree : (most : ℕ) (front : List R) (whole cut : List ℕ) → AgreeUpToWide (text_records_of whole) (text_records_of cut)
      → rows_read most (reads_behind row_of front whole) ≡ rows_read most (reads_behind row_of front cut)
  rows_agree most front whole cut (inl same) = ap (λ l. rows_read most (map (λ r. Ok r) front ++ map row_of l)) same
  rows_agree most front whole cut (inr apart) =
      let done = map (λ r. Ok r) front ++ map row_of apart.before in
      ap (rows_read most) (reads_upto front (text_records_of whole) apart.before apart.whole_after apart.whole_wide apart.whole_is apart.whole_is_wide)
      ∙ behind_bad most done Fields (map row_of apart.whole_after) (map row_of apart.cut_after)
      ∙ ap (rows_read most) (sym (reads_upto front (text_records_of cut) apart.before apart.cut_after apart.cut_wide apart.cut_is apart.cut_is_wide))

  -- so what holds of the rows of the one holds of those of the other
  pub rows_of_cut : (P : Result (List R) RowNo → Type 0) (most : ℕ) (front : List R) (whole cut : List ℕ)
      → AgreeUpToWide (text_records_of whole) (text_records_of cut)
      → P (rows_read most (reads_behind row_of front cut)) → P (rows_read most (reads_behind row_of front whole))
  rows_of_cut P most front whole cut agree = subst P (sym (rows_agree most front whole cut agree))
