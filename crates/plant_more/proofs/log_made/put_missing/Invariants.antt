use Rattle.std.proofs.Common.{◌≡◌, ℕ, ◌<◌, length}
use Rattle.std.specs.Prelude.{slice_index}
use Rattle.plant_more.specs.{row_lists_of, IsSameLog}
use Rattle.plant_more.specs.LogFinding.{AreFound, rows_in}
use Rattle.plant_more.proofs.log_made.put_missing.Given as goal

abbrev pub invariant-loop-collector : goal.invariant-loop-collector
invariant-loop-collector g l = record {
  found : AreFound (row_lists_of l.files) l.log.tape l.next;
  all : (c : ℕ) → c < l.collector → slice_index l.next c ≡ length (rows_in (row_lists_of l.files) c);
  same : IsSameLog l.fn.log l.log;
}
