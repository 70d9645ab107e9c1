use Rattle.std.proofs.Common.{◌≡◌, ◌+◌, vec_len, vec_capacity}
use Rattle.archive_file.specs.{Adds}
use Rattle.archive_file.proofs.log.parse.Given as goal

abbrev pub invariant-loop-k : goal.invariant-loop-k
invariant-loop-k l = record {
  added : Adds l.bytes 0 l.k l.initial.recs.items l.recs.items;
  len : vec_len l.recs ≡ vec_len l.initial.recs + l.k;
  capacity : vec_capacity l.recs ≡ vec_capacity l.initial.recs;
}
