-- A tag a row of which is not taken: its tape has fewer takes than the tag has rows.
use Rattle.std.proofs.Common.{◌≡◌, ℕ, ◌<◌, List, length, get_or, IsSome, ap, arith}
use Rattle.std.specs.Prelude.{slice_index}
use Rattle.value_rows.specs.{RawRow}
use Rattle.tag_cell.specs.{taken, ToldCell}
use Rattle.session_audit.specs.Agendas.{phase_item}
use Rattle.session_audit.specs.{Reached, next_due, take_of, AreAllFound, AreOver, LacksRow, tag_rows}
use Rattle.session_audit.proofs.Counting.{found_fewer, takes_fewer}

-- a collector's row is due at a tag, and was not found on its tape
pub rows_lacking : {D : Type 0} (earlier tags collector : ℕ) (rooms : List ℕ) (files : List (List RawRow)) (cells : List (ToldCell D))
    (works : List Reached) (d : Reached) (tag : ℕ) (one : ToldCell D) → AreOver (phase_item earlier) tags files works
    → AreAllFound take_of cells works → collector < length files → length rooms ≡ length cells
    → ((t : ℕ) → t < length rooms → slice_index rooms t ≡ tag_rows t files) → tag < length cells
    → IsSome (next_due (get_or works collector d) tag)
    → (length (taken (get_or cells tag one).tape) < slice_index rooms tag)
    × LacksRow take_of (phase_item earlier) files tag (get_or cells tag one).tape
rows_lacking earlier tags collector rooms files cells works d tag one over found_so within as_many counted below due =
    let here = found_so.each tag one below in
    let fewer = takes_fewer earlier tags tag files works d over collector (get_or cells tag one).tape here within due in
    let count = counted tag (omega (arith, below, as_many)) in (
      omega (arith, fewer, count),
      record {
        worker = collector;
        fewer = omega (arith, ap length (here.each collector), found_fewer earlier tags tag files works d over collector within due);
      },
    )
