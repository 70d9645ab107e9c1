-- Which status refused rows come to.
use Rattle.std.proofs.Common.{arith, ◌≡◌, ℕ, ◌+◌, Bool, true, false, cond, List, nat_lt, Result, Ok, Err, inr, refl}
use Rattle.byte_io.specs.{FileTold}
use Rattle.trend_num.specs.{Reason, What}
use Rattle.point_text.specs.{unless_more, RowNo}
use Rattle.point_text.specs.declared.failure.RowNo.TheVariants as row_no
use Rattle.value_rows.specs.{rows_of_text, AreRefusedFor}
use Rattle.plant_status.specs.{FileId}
use Rattle.plant_files.specs.Reading.{IsReadWhole}
use Rattle.plant_files.specs.{IsRowRefusal, most_file_bytes, row_status}

-- rows that are too many are reported as one more than there may be
one_row_more : {R : Type 0} (most count : ℕ) (found : Result (List R) (ℕ × Reason)) (number : ℕ)
    → unless_more most count found ≡ Err (row_no.TooMany number) → number ≡ most + 1
one_row_more most count (Err bad) number e = absurd (cc)
one_row_more most count (Ok rs) number e = by (nat_lt most count) e
  where
    by : (more : Bool) → cond more (Err (row_no.TooMany (most + 1))) (Ok rs) ≡ Err (row_no.TooMany number) → number ≡ most + 1
    by true told = cc
    by false told = absurd (cc)

-- the same of the rows of a text
too_many : {R : Type 0} (row_of : List (List ℕ) → Result R Reason) (most : ℕ) (bytes : List ℕ) (number : ℕ)
    → rows_of_text row_of most bytes ≡ Err (row_no.TooMany number) → number ≡ most + 1
too_many row_of most bytes number e = grind (arith, one_row_more)

-- the bytes of a file are refused as rows
pub rows_refused : {R : Type 0} (kind : What) (most : ℕ) (row_of : List (List ℕ) → Result R Reason) (file : FileId) (told : FileTold)
    (bytes : List ℕ) (why : RowNo) → IsReadWhole told most_file_bytes bytes → AreRefusedFor (rows_of_text row_of most bytes) why
    → IsRowRefusal kind most (rows_of_text row_of most) file told (row_status kind file why)
rows_refused kind most row_of file told bytes (row_no.BadRow row reason) read refused =
    (refl, record { bytes = bytes; read = read; so = refused })
rows_refused kind most row_of file told bytes (row_no.TooMany number) read refused =
    inr (record {
      quantity = refl;
      one_more = too_many row_of most bytes number refused;
      refused = record { bytes = bytes; read = read; so = refused };
    })
rows_refused kind most row_of file told bytes row_no.WantOfMemory read refused = tt
