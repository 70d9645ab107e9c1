-- The rows that were read so far, and what the rows of the whole text then are.
use Rattle.std.proofs.Common.{All, ◌≡◌, ℕ, ◌+◌, ◌<◌, ◌≤◌, Bool, true, false, List, [], ◌∷◌, ◌++◌, Result, Ok, Err, length, map, ap, ◌∙◌, append_assoc, length-append, arith, Bor}
use Rattle.std.proofs.lemmas.List.{append-nil, map-append}
use Rattle.std.proofs.lemmas.List.Elements.{All-push}
use Rattle.csv.specs.declared.reader.Reader.{Reader}
use Rattle.trend_num.specs.{Reason}
use Rattle.point_text.specs.declared.failure.RowNo.TheVariants.{BadRow, TooMany}
use Rattle.point_text.proofs.RowList.{all_read, rows_from-all, rows_from-bad, rows_from-more}
use Rattle.value_rows.specs.{rows_read, HasLeft, IsNext, ReadsRecords}

-- of records that read so, these rows were read, as many as counted and no more than allowed; the reader has the others
-- left
pub record AreSoFar {R : Type 0} (P : R → Type 0) (row_of : ReadsRecords R) (all : List (Result R Reason)) (most : ℕ) (r : Reader (Bor (List ℕ))) (rows : List R) (count : ℕ) : Type 0 where
  pub left : List (List (List ℕ))
  pub stands : HasLeft r left
  pub split : all ≡ all_read rows ++ map row_of left
  pub counted : length rows ≡ count
  pub few : count ≤ most
  pub each : All P rows

module _ {R : Type 0} {P : R → Type 0} {row_of : ReadsRecords R} {all : List (Result R Reason)} {most : ℕ} {r : Reader (Bor (List ℕ))}
    {rows : List R} {count : ℕ} (here : AreSoFar P row_of all most r rows count) where
  -- a read that found no record, and one that found one
  pub ended : (m : Reader (Bor (List ℕ))) (fields : List (List ℕ)) (found : Bool) → found ≡ false
      → ((left : List (List (List ℕ))) → HasLeft r left → IsNext m fields left found) → here.left ≡ []
  ended m fields true gone next = absurd (cc)
  ended m fields false gone next = next here.left here.stands

  pub went_on : (m : Reader (Bor (List ℕ))) (fields : List (List ℕ)) (found : Bool) → found ≡ true
      → ((left : List (List (List ℕ))) → HasLeft r left → IsNext m fields left found)
      → (rest : List (List (List ℕ))) × (here.left ≡ fields ∷ rest) × HasLeft m rest
  went_on m fields true found next = next here.left here.stands
  went_on m fields false found next = absurd (cc)

  -- the end of the text
  pub all_so_far : here.left ≡ [] → rows_read most all ≡ Ok rows
  all_so_far none = grind (arith, all_read, append-nil, rows_from-all)

  module _ (rest : List (List (List ℕ))) (fields : List (List ℕ)) (next : here.left ≡ fields ∷ rest) where
    -- a record more than there may be
    pub more_than_most : count ≡ most → rows_read most all ≡ Err (TooMany (count + 1))
    more_than_most full = grind (arith, all_read, rows_from-more)

    -- a bad record
    pub bad_so_far : (reason : Reason) → count < most → row_of fields ≡ Err reason → rows_read most all ≡ Err (BadRow (count + 1) reason)
    bad_so_far reason room bad = grind (arith, all_read, rows_from-bad)

    -- a good record
    pub one_more : (m : Reader (Bor (List ℕ))) (after : List R) (row : R) → count < most → row_of fields ≡ Ok row
        → after ≡ rows ++ row ∷ [] → HasLeft m rest → P row → AreSoFar P row_of all most m after (count + 1)
    one_more m after row room good more has is_row = record {
      left = rest;
      stands = has;
      split = grind (arith, all_read, append_assoc, map-append);
      counted = ap length more ∙ omega (arith, here.counted, length-append rows (row ∷ []));
      few = omega arith;
      each = rw more (All-push P rows row here.each is_row);
    }
