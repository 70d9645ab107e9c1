use Rattle.std.proofs.Common.{take}
use Rattle.calc_refresh.specs.{lists_of}
use Rattle.session_report.specs.{AreMarked, is_snapped}
use Rattle.session_report.proofs.snap.mark_all.Given as goal

abbrev pub invariant-loop-queries : goal.invariant-loop-queries
invariant-loop-queries l = AreMarked (is_snapped (lists_of (take l.queries-index l.readers))) l.initial.marks l.marks
