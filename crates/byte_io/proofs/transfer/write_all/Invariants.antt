use Rattle.std.proofs.Common.{length, take, ◌-◌, ◌≤◌}
use Rattle.byte_io.specs.Outside.{CountsNoFault, Gains}
use Rattle.byte_io.proofs.transfer.write_all.Given as goal

abbrev pub invariant-loop-at : goal.invariant-loop-at
invariant-loop-at g l = record {
  in_range : l.at ≤ length l.bytes;
  sent : Gains (g.O.Sink.meaning l.initial.out) (g.O.Sink.meaning l.out) (take l.at l.bytes);
  no_fault : CountsNoFault (g.O.Sink.meaning l.initial.out) (g.O.Sink.meaning l.out);
}

abbrev pub decreases-loop-at : goal.decreases-loop-at
decreases-loop-at g l = length l.bytes - l.at
