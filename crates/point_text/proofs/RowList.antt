-- Lemmas on the rows of lines, of any kind.
use Rattle.std.proofs.Common.{◌≡◌, ℕ, suc, ◌+◌, ◌-◌, ◌<◌, ◌≤◌, true, false, List, [], ◌∷◌, ◌++◌, length, map, take, take-add, nat_lt, Result, Ok, Err, arith, refl, ap, ◌∙◌, length-append}
use Rattle.std.proofs.lemmas.Bool.Decides.{nat_tests}
use Rattle.std.proofs.lemmas.List.{length-map, take-map, take_at, take_all, drop_at}
use Rattle.trend_num.specs.{Reason}
use Rattle.point_text.specs.{RowNo, all_rows, unless_more, rows_of, with_first}
use Rattle.point_text.specs.declared.failure.RowNo.TheVariants.{BadRow, TooMany}

-- all of these were read
abbrev pub all_read : {R : Type 0} → List R → List (Result R Reason)
all_read found = map (λ r. Ok r) found

-- a line that has no row, after lines that have one
all_rows-bad : {R : Type 0} (found : List R) (reason : Reason) (reads : List (Result R Reason))
    → all_rows (all_read found ++ Err reason ∷ reads) ≡ Err (length found + 1, reason)
all_rows-bad [] reason reads = refl
all_rows-bad {R} (r ∷ found) reason reads =
    let P : ℕ → Result (List R) (ℕ × Reason) = λ n. Err (n, reason) in
    let count : length found + 1 + 1 ≡ length (r ∷ found) + 1 = omega arith in
    ap (with_first r) (all_rows-bad found reason reads) ∙ ap P count

-- lines that each have a row
all_rows-ok : {R : Type 0} (found : List R) → all_rows (all_read found) ≡ Ok found
all_rows-ok [] = refl
all_rows-ok (r ∷ found) = ap (with_first r) (all_rows-ok found)

-- the answer to lines that read so
abbrev pub rows_from : {R : Type 0} → ℕ → List (Result R Reason) → Result (List R) RowNo
rows_from most reads = unless_more most (length reads) (all_rows (take most reads))

-- it is that to the lines
pub rows_of-reads : {R : Type 0} (row_of : List ℕ → Result R Reason) (most : ℕ) (texts : List (List ℕ))
    → rows_of row_of most texts ≡ rows_from most (map row_of texts)
rows_of-reads row_of most texts = grind (arith, length-map, take-map)

-- as many lines as rows
all_read-count : {R : Type 0} (found : List R) → length (all_read found) ≡ length found
all_read-count found = length-map found (λ r. Ok r)

-- the next line is bad, and no more lines than there may be came before it
pub rows_from-bad : {R : Type 0} (most : ℕ) (found : List R) (reason : Reason) (reads : List (Result R Reason)) → length found < most
    → rows_from most (all_read found ++ Err reason ∷ reads) ≡ Err (BadRow (length found + 1) reason)
rows_from-bad {R} most found reason reads room =
    let done : List (Result R Reason) = all_read found in
    let whole : List (Result R Reason) = done ++ Err reason ∷ reads in
    let count : length done ≡ length found = all_read-count found in
    let k = most - suc (length done) in
    let split : most ≡ length done + suc k = omega arith in
    let front : take most whole ≡ done ++ Err reason ∷ take k reads =
    grind (arith, take-add, take_at, drop_at) in
    ap (unless_more most (length whole)) (ap all_rows front ∙ all_rows-bad found reason (take k reads))

-- the test of too many lines
more_is : (most count : ℕ) → most < count → nat_lt most count ≡ true
more_is most count more = grind (arith, nat_tests)

no_more_is : (most count : ℕ) → count ≤ most → nat_lt most count ≡ false
no_more_is most count few = grind (arith, nat_tests)

-- as many lines as there may be were read, and one is left
pub rows_from-more : {R : Type 0} (most : ℕ) (found : List R) (read : Result R Reason) (reads : List (Result R Reason)) → length found ≡ most
    → rows_from most (all_read found ++ read ∷ reads) ≡ Err (TooMany (most + 1))
rows_from-more {R} most found read reads full =
    grind (arith, all_read-count, take_at, length-append, all_rows-ok, more_is)

-- all lines were read, and no more than there may be
pub rows_from-all : {R : Type 0} (most : ℕ) (found : List R) → length found ≤ most → rows_from most (all_read found) ≡ Ok found
rows_from-all {R} most found few = grind (arith, all_read-count, take_all, all_rows-ok, no_more_is)
