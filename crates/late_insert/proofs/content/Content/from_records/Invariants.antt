use Rattle.std.proofs.Common.{◌≡◌, ◌+◌, ◌-◌, ◌≤◌, length, take}
use Rattle.trend_model.specs.{IsRising, listed}
use Rattle.late_insert.specs.{AreFull}
use Rattle.late_insert.proofs.content.Content.from_records.Given as goal

abbrev pub invariant-loop-done : goal.invariant-loop-done
invariant-loop-done l = record {
  records : l.content.records ≡ listed (take l.done l.recs);
  within : l.done ≤ length l.recs;
  spare : length l.recs + l.more ≤ l.content.spare + l.done;
  filled : IsRising l.recs → AreFull l.content.pages;
  room : length l.content.records + l.content.spare ≡ length l.recs + l.more;
}

abbrev pub decreases-loop-done : goal.decreases-loop-done
decreases-loop-done l = length l.recs - l.done
