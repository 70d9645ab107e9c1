-- Tables of places.
use Rattle.std.proofs.Common.{◌≡◌, ℕ, ◌<◌, List, [], ◌∷◌, length, get_or, set, refl, suc, zero, ap, ◌∙◌, Option, None}
use Rattle.std.specs.Prelude.{◌≢◌}
use Rattle.std.proofs.lemmas.List.{get_or-set_same, get_or-set_other, length-set}
use Rattle.value_rows.specs.{Query}
use Rattle.session_report.specs.{HasPlaceOfEach, Table, place_in}

module _ (table : Table) (reader k : ℕ) (place : Option ℕ) where
  -- the table with another place for a query
  abbrev pub set_place : Table
  set_place = set table reader (set (get_or table reader []) k place)

  -- that is then the place that the table has
  pub place_set : reader < length table → k < length (get_or table reader []) → place_in set_place reader k ≡ place
  place_set in_table in_row =
      ap (λ row. get_or row k None) (get_or-set_same table reader (set (get_or table reader []) k place) [] in_table)
      ∙ get_or-set_same (get_or table reader []) k place None in_row

  -- of the same reader another query keeps its place
  pub other_query : (j : ℕ) → reader < length table → j ≢ k → place_in set_place reader j ≡ place_in table reader j
  other_query j in_table other =
      ap (λ row. get_or row j None) (get_or-set_same table reader (set (get_or table reader []) k place) [] in_table)
      ∙ get_or-set_other (get_or table reader []) k j place None other

  -- and so do those of another reader
  pub other_reader : (r j : ℕ) → r ≢ reader → place_in set_place r j ≡ place_in table r j
  other_reader r j other =
      ap (λ row. get_or row j None) (get_or-set_other table reader r (set (get_or table reader []) k place) [] other)

-- a reader's places with as many others
pub HasShape_set : (readers : List (List Query)) (table : Table) (reader : ℕ) (places : List (Option ℕ)) → HasPlaceOfEach readers table
    → length places ≡ length (get_or table reader []) → HasPlaceOfEach readers (set table reader places)
HasShape_set readers table reader places shape same = record {
  as_many = length-set table reader places ∙ shape.as_many;
  rows = λ r. by_rows table reader r same ∙ shape.rows r;
}
  where
    by_rows : (t : Table) (i r : ℕ) → length places ≡ length (get_or t i []) → length (get_or (set t i places) r []) ≡ length (get_or t r [])
    by_rows [] i r is = refl
    by_rows (p ∷ t) zero zero is = is
    by_rows (p ∷ t) zero (suc r) is = refl
    by_rows (p ∷ t) (suc i) zero is = refl
    by_rows (p ∷ t) (suc i) (suc r) is = by_rows t i r is
