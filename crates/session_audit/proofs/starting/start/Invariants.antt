use Rattle.std.proofs.Common.{◌≤◌, length, vec_capacity}
use Rattle.calc_refresh.specs.{lists_of}
use Rattle.session_audit.proofs.Starts.{AreStarted}
use Rattle.session_audit.proofs.starting.start.Given as goal

abbrev pub invariant-loop-worker : goal.invariant-loop-worker
invariant-loop-worker g l = record {
  started : AreStarted (g.K.Kind.item_of l.earlier) l.units l.worker (lists_of l.files) l.works.items;
  room : length l.files ≤ vec_capacity l.works;
}
