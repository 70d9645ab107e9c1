use Rattle.std.proofs.Common.{take}
use Rattle.std.specs.List.{list_any}
use Rattle.session_report.specs.{AreMarked, is_snap}
use Rattle.session_report.proofs.snap.mark_snaps.Given as goal

abbrev pub invariant-loop-query : goal.invariant-loop-query
invariant-loop-query l = AreMarked (λ tag. list_any (is_snap tag) (take l.query-index l.queries)) l.initial.marks l.marks
