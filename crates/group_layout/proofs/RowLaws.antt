-- A row whose fields are kept.
use Rattle.std.proofs.Common.{◌≡◌, ℕ, ◌+◌, ◌-◌, ◌^◌, ◌<◌, ◌≤◌, inl, inr, true, List, [], ◌∷◌, ◌++◌, All, AllPairs, length, get_or, MatchOption, length-append, Option, None, Some, refl, sym, ap, ◌∙◌, subst, arith, lit<, ltb-true, leb-true}
use Rattle.std.proofs.Math.Seq.{get_or-append_seam}
use Rattle.std.proofs.lemmas.Bool.{and_parts, cases_lt}
use Rattle.std.proofs.lemmas.Bool.Decides.{nat_tests}
use Rattle.std.proofs.lemmas.List.Quantifiers.{all_pairs_push}
use Rattle.group_layout.specs.{BlockRow, IsBefore, IsRow, comes_before, is_in_order, row_at, row_fields, row_image, rows_fields}
use Rattle.archive_file.specs.{Field, BreaksFirst, Keeps, Spells, long_at, short_at, number_bytes}
use Rattle.archive_file.proofs.FieldLaws.{KeptUpTo, breaks_after, breaks_within, kept_more}
use Rattle.archive_file.proofs.Windows.{then_spelled, value_spelled}

-- no field
abbrev none : Field
none = record { place = 0; size = 0; is_kept = true }

module _ (c : List ℕ) (calcs windows at : ℕ) (last : Option BlockRow) (r : BlockRow)
    (kept : All (Keeps c) (row_fields calcs windows last r at)) where
  -- it is a row
  pub row_found : IsRow calcs windows r
  row_found = record {
    calc = ltb-true _ _ (and_parts _ _ (kept 0 none (lit< tt)).kept).0;
    window = ltb-true _ _ (and_parts _ _ (kept 1 none (lit< tt)).kept).0;
    kind = leb-true _ _ (kept 2 none (lit< tt)).kept;
    value = (kept 3 none (lit< tt)).kept;
  }

  -- and comes after the last one
  pub row_ordered : is_in_order last r ≡ true
  row_ordered = (and_parts _ _ (kept 1 none (lit< tt)).kept).1

-- its bytes, one number after the other
pub row_spelled : (c : List ℕ) (at : ℕ) → Spells c at (number_bytes 4 (short_at c at)) (at + 4)
    → Spells c (at + 4) (number_bytes 4 (short_at c (at + 4))) (at + 4 + 4) → Spells c (at + 8) (number_bytes 1 (get_or c (at + 8) 0)) (at + 8 + 1)
    → Spells c (at + 9) (number_bytes 8 (long_at c (at + 9))) (at + 9 + 8) → long_at c (at + 9) < 2 ^ 64
    → Spells c at (row_image (row_at c at)) (at + 17)
row_spelled c at calc window kind value low =
    let end : at + 9 + 8 ≡ at + 17 = omega arith in
    then_spelled c at (at + 4) (at + 4) (at + 17) _ _ calc refl
    (then_spelled c (at + 4) (at + 4 + 4) (at + 8) (at + 17) _ _ window (omega arith)
    (then_spelled c (at + 8) (at + 8 + 1) (at + 9) (at + 17) _ _ kind (omega arith)
    (grind (arith, value_spelled))))

-- ---- rows in order

-- what comes before comes before all that follows
before_both : (a b x y e f : ℕ) → comes_before a b x y ≡ true → comes_before x y e f ≡ true → comes_before a b e f ≡ true
before_both a b x y e f first second = grind (arith, nat_tests)

-- the last of rows, if there is one
pub record IsLastOf (rows : List BlockRow) (last : Option BlockRow) : Type 0 where
  pub is_last : MatchOption last (rows ≡ []) (λ l. (rs : List BlockRow) × (rows ≡ rs ++ l ∷ []))

-- one more row, after the last one
pub sorted_push : (rows : List BlockRow) (last : Option BlockRow) (r : BlockRow) → AllPairs IsBefore rows → IsLastOf rows last
    → is_in_order last r ≡ true → AllPairs IsBefore (rows ++ r ∷ [])
sorted_push rows None r sorted is order =
    all_pairs_push IsBefore rows r sorted
    (λ k d low. absurd (omega (arith, ap length is.is_last)))
sorted_push rows (Some l) r sorted is order =
    all_pairs_push IsBefore rows r sorted (λ k d low. elim (cases_lt k (length is.is_last.0)) [
      | inl before ↦ record {
        order = before_both (get_or rows k d).calc (get_or rows k d).window l.calc l.window r.calc r.window (subst (λ x. IsBefore (get_or rows k d) x) (at_last d)
            (sorted k (length is.is_last.0) d before (omega (arith, long)))).order order;
      }
      | inr at ↦ record {
        order = subst (λ x. comes_before x.calc x.window r.calc r.window ≡ true)
            (sym (ap (λ n. get_or rows n d) (same_place k low at) ∙ at_last d)) order;
      }
    ])
  where
    long : length rows ≡ length is.is_last.0 + 1
    long = ap length is.is_last.1 ∙ length-append is.is_last.0 (l ∷ [])

    same_place : (k : ℕ) → k < length rows → length is.is_last.0 ≤ k → k ≡ length is.is_last.0
    same_place k low at = omega (arith, long)

    at_last : (d : BlockRow) → get_or rows (length is.is_last.0) d ≡ l
    at_last d = ap (λ xs. get_or xs (length is.is_last.0) d) is.is_last.1 ∙ get_or-append_seam is.is_last.0 l [] d

-- ---- rows read in turn

module _ (c : List ℕ) (calcs windows start at count k : ℕ) (last : Option BlockRow) (low : k < count)
    (so_far : KeptUpTo c (rows_fields c calcs windows None start count) (rows_fields c calcs windows last at (count - k))) where
  -- the fields of the next row come first
  next_fields : KeptUpTo c (rows_fields c calcs windows None start count)
      (row_fields calcs windows last (row_at c at) at ++ rows_fields c calcs windows (Some (row_at c at)) (at + 17) (count - (k + 1)))
  next_fields = grind arith

  -- one row more is kept
  pub row_more : (r : BlockRow) → r ≡ row_at c at → All (Keeps c) (row_fields calcs windows last (row_at c at) at)
      → KeptUpTo c (rows_fields c calcs windows None start count)
      (rows_fields c calcs windows (Some r) (at + 17) (count - (k + 1)))
  row_more r is kept =
      subst (λ x. KeptUpTo c (rows_fields c calcs windows None start count)
      (rows_fields c calcs windows (Some x) (at + 17) (count - (k + 1)))) (sym is)
      (kept_more c _ (row_fields calcs windows last (row_at c at) at) _ next_fields kept)

  -- the next row breaks a rule
  pub row_breaks : (a : ℕ) (byte : Option ℕ) → BreaksFirst c (row_fields calcs windows last (row_at c at) at) a byte
      → BreaksFirst c (rows_fields c calcs windows None start count) a byte
  row_breaks a byte breaks =
      breaks_after c _ _ a byte next_fields
      (breaks_within c (row_fields calcs windows last (row_at c at) at) _ a byte breaks)
