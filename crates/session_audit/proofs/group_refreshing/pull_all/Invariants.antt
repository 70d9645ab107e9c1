use Rattle.std.proofs.Common.{take}
use Rattle.group_book.specs.{ArePullsOf, lists_at, versions_of}
use Rattle.session_audit.specs.{AreEach, IsPulledMore, durable_lists}
use Rattle.session_audit.proofs.group_refreshing.pull_all.Given as goal

abbrev pub invariant-loop-input : goal.invariant-loop-input
invariant-loop-input g l = record {
  pulls : ArePullsOf (take l.input (lists_at (durable_lists l.initial.cells) l.tags)) (take l.input (versions_of l.book)) l.pulled.items;
  cells : AreEach IsPulledMore l.initial.cells l.cells;
}
