use Rattle.std.proofs.Common.{◌≡◌, ◌-◌, ◌≤◌, length, take}
use Rattle.tag_cell.specs.{taken}
use Rattle.tag_cell.proofs.batch.oldest.Given as goal

abbrev pub invariant-loop-batch : goal.invariant-loop-batch
invariant-loop-batch l = record {
  within : l.batch.entries ≤ length l.rest;
  points : take l.batch.count l.batch.points ≡ taken (take l.batch.entries l.rest);
  count : l.batch.count ≡ length (taken (take l.batch.entries l.rest));
  most : l.batch.count ≤ 64;
}

abbrev pub decreases-loop-batch : goal.decreases-loop-batch
decreases-loop-batch l = length l.rest - l.batch.entries
