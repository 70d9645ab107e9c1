use Rattle.std.proofs.Common.{◌≡◌, ◌≤◌, [], length, take, vec_capacity, vec_len}
use Rattle.plant_more.specs.{AreStanding}
use Rattle.plant_more.proofs.log_report.new_cores.Given as goal

abbrev pub invariant-loop-tag : goal.invariant-loop-tag
invariant-loop-tag l = record {
  standing : AreStanding (take l.tag l.tags) [] l.cores.items;
  count : vec_len l.cores ≡ l.tag;
  room : length l.tags ≤ vec_capacity l.cores;
}
