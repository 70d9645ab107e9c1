use Rattle.std.proofs.Common.{◌+◌, ◌-◌, ◌≤◌, vec_len}
use Rattle.byte_io.specs.Outside.{CountsNoFault, Takes}
use Rattle.byte_io.proofs.transfer.read_all.Given as goal

abbrev pub invariant-loop-count : goal.invariant-loop-count
invariant-loop-count g l = record {
  within : vec_len l.all ≤ l.limit;
  taken : Takes (g.S.Source.meaning l.initial.src) (g.S.Source.meaning l.src) l.all.items;
  no_fault : CountsNoFault (g.S.Source.meaning l.initial.src) (g.S.Source.meaning l.src);
}

abbrev pub decreases-loop-count : goal.decreases-loop-count
decreases-loop-count g l = l.limit + 1 - vec_len l.all
