use Rattle.std.proofs.Common.{◌≡◌, ◌*◌, ◌≤◌, take}
use Rattle.sheet_law.specs.{longer}
use Rattle.calc_refresh.specs.{lists_of, total_length}
use Rattle.calc_refresh.proofs.limit.records_after.Given as goal

abbrev pub invariant-loop-i : goal.invariant-loop-i
invariant-loop-i l = record {
  summed : l.records ≡ total_length (take l.i (longer (lists_of l.copies) (lists_of l.deltas)));
  bound : l.records ≤ 8589934592 * l.i;
}
