use Rattle.std.proofs.Common.{◌≡◌, ◌≤◌, length, map, take, vec_capacity, vec_len}
use Rattle.group_book.proofs.publish.uptos.Given as goal

abbrev pub invariant-loop-one : goal.invariant-loop-one
invariant-loop-one l = record {
  room : length l.pulled ≤ vec_capacity l.versions;
  len : vec_len l.versions ≡ l.one-index;
  uptos : l.versions.items ≡ map (λ p. p.upto) (take l.one-index l.pulled);
}
