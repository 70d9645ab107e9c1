use Rattle.std.proofs.Common.{◌≡◌}
use Rattle.std.specs.Prelude.{slice_index}
use Rattle.plant_more.specs.{row_lists_of, IsSameLog}
use Rattle.plant_more.specs.LogFinding.{AreFound, AreOthersSame}
use Rattle.plant_more.proofs.log_made.put_file.Given as goal

abbrev pub invariant-loop-place : goal.invariant-loop-place
invariant-loop-place g l = record {
  found : AreFound (row_lists_of l.files) l.log.tape l.next;
  at : slice_index l.next l.collector ≡ l.place;
  others : AreOthersSame l.collector l.fn.next l.next;
  same : IsSameLog l.fn.log l.log;
}
