-- Why `pack` refuses what it has read.
use Rattle.std.proofs.Common.{◌≡◌, ℕ, ◌≤◌, ◌⊎◌, inl, inr, false, List, length, nat_lt, Option, None, Some, Err, arith, ap, sym, ◌∙◌, subst}
use Rattle.std.proofs.lemmas.Bool.Decides.{nat_tests}
use Rattle.trend_num.specs.{Point, Tuning}
use Rattle.trend_num.specs.declared.refusal.What.TheVariants.{Rows, Records}
use Rattle.trend_model.specs.{Event, Origin}
use Rattle.byte_io.specs.Outside.{Outside, CountsNoFault, TakesAll}
use Rattle.point_text.specs.{line_points_of, RowNo}
use Rattle.point_text.specs.declared.failure.RowNo.TheVariants as row_no
use Rattle.plant_status.specs.declared.file.FileId.TheVariants.{Input}
use Rattle.plant_status.specs.declared.status.Status.{Status}
use Rattle.plant_status.specs.declared.status.Status.TheVariants.{BadRow, Limit, WantOfMemory}
use Rattle.pack_command.specs.{Refuses, IsPackRefusal, IsInputRead, RefusesBytes, answer_full, answer_rows, first_full, history_answer, history_of, most_input_bytes, origin_of, most_rows, pack_answer, status_of_rows}

-- the test of too many bytes, where there are none too many
within_is : (n : ℕ) → n ≤ most_input_bytes → nat_lt most_input_bytes n ≡ false
within_is n few = grind (arith, nat_tests)

-- the answer to bytes that are not too many
answer_within : (tuning : Tuning) (bytes : List ℕ) → length bytes ≤ most_input_bytes → pack_answer tuning bytes ≡ answer_rows tuning (line_points_of most_rows bytes)
answer_within tuning bytes few = grind (arith, within_is)

-- bytes that were all read, whose answer is a refusal
bytes_refused : (tuning : Tuning) (before now : Outside) (bytes : List ℕ) (refusal : Status) → TakesAll before now bytes → CountsNoFault before now
    → length bytes ≤ most_input_bytes → answer_rows tuning (line_points_of most_rows bytes) ≡ Refuses refusal → RefusesBytes tuning before now refusal
bytes_refused tuning before now bytes refusal whole no_fault few is = record {
  bytes = bytes;
  taken = whole.taken;
  enough = inl whole.ended;
  no_fault = no_fault;
  answer = answer_within tuning bytes few ∙ is;
}

-- rows that are refused
pub rows_refused : (tuning : Tuning) (before now : Outside) (bytes : List ℕ) (why : RowNo) → TakesAll before now bytes → CountsNoFault before now
    → length bytes ≤ most_input_bytes → (why ≡ row_no.WantOfMemory) ⊎ (line_points_of most_rows bytes ≡ Err why)
    → IsPackRefusal tuning before now (status_of_rows why)
rows_refused tuning before now bytes (row_no.BadRow row reason) whole no_fault few (inl memory) = absurd (cc)
rows_refused tuning before now bytes (row_no.BadRow row reason) whole no_fault few (inr is) =
    bytes_refused tuning before now bytes (BadRow Input row reason) whole no_fault few (ap (answer_rows tuning) is)
rows_refused tuning before now bytes (row_no.TooMany count) whole no_fault few (inl memory) = absurd (cc)
rows_refused tuning before now bytes (row_no.TooMany count) whole no_fault few (inr is) =
    (bytes_refused tuning before now bytes (Limit Rows count) whole no_fault few (ap (answer_rows tuning) is), λ same. absurd (cc))
rows_refused tuning before now bytes row_no.WantOfMemory whole no_fault few why = no_fault

-- the answer to a history is no other refusal than that of its records
full_is : (o : Origin) (h : List Event) (full : Option ℕ) (why : Status) → answer_full o h full ≡ Refuses why
    → (number : ℕ) × (why ≡ Limit Records number)
full_is o h None why is = absurd (cc)
full_is o h (Some number) why is = (number, cc)

-- a history that is refused
pub history_refused : (tuning : Tuning) (before now : Outside) (points : List Point) (why : Status) → IsInputRead before now points
    → (why ≡ WantOfMemory) ⊎ (history_answer (origin_of tuning) (history_of points) ≡ Refuses why) → IsPackRefusal tuning before now why
history_refused tuning before now points why read (inl memory) = subst (IsPackRefusal tuning before now) (sym memory) read.no_fault
history_refused tuning before now points why read (inr is) =
    let full = full_is (origin_of tuning) (history_of points) (first_full (origin_of tuning) (history_of points)) why is in
    subst (IsPackRefusal tuning before now) (sym full.1) (
      bytes_refused tuning before now read.bytes (Limit Records full.0) read.whole read.no_fault read.within
          (ap (answer_rows tuning) read.rows ∙ is ∙ ap (λ s. Refuses s) full.1),
      λ same. absurd (cc),
    )
