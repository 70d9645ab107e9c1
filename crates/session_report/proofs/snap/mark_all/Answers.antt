use Rattle.std.proofs.Common.{subst}
use Rattle.std.specs.List.{list_any}
use Rattle.session_report.specs.{AreMarked, is_snap}
use Rattle.session_report.proofs.Marks.{none_marked, reader_marked}
use Rattle.session_report.proofs.snap.mark_all.Goals as goal

pub loop-queries-init : goal.loop-queries-init
loop-queries-init c = none_marked c.args.marks.now

pub loop-queries-preserved : goal.loop-queries-preserved
loop-queries-preserved c =
    let made = subst (λ l. AreMarked (λ t. list_any (is_snap t) l) c.loop-queries.marks c.mark_snaps.new.marks) c.as_slice.ensures.value
    c.mark_snaps.ensures in
    reader_marked c.args.readers.now c.loop-queries.queries-index c.queries-item.result _ _ _ c.loop-queries-test.true c.queries-item.is
    c.loop-queries.invariant made
