use Rattle.std.proofs.Common.{arith}
use Rattle.archive_file.proofs.Beginnings.{closed_counted, left_closed, left_kept, left_then_synced, left_wrote, wrote_counted}
use Rattle.archive_file.proofs.head_writer.close_layout.Goals as goal

pub returns-in_err-len-clause-any_moment : goal.returns-in_err-len-clause-any_moment
returns-in_err-len-clause-any_moment g c = left_kept _ _ c.len.ensures.same

pub returns-then-branch-gt0-clause-any_moment : goal.returns-then-branch-gt0-clause-any_moment
returns-then-branch-gt0-clause-any_moment g c = left_closed _ _ _ c.len.ensures.same c.close_gates.ensures.any_moment

pub returns-in_err-write_at-clause-any_moment : goal.returns-in_err-write_at-clause-any_moment
returns-in_err-write_at-clause-any_moment g c = grind (arith, left_wrote)

pub returns-clause-any_moment : goal.returns-clause-any_moment
returns-clause-any_moment g c =
    left_then_synced c.sync.result _ _ _
    (left_wrote c.write_at.result _ _ _ c.in_ok-len.field-0 c.requires.settled c.len.ensures.same
    c.in_ok-len.ensures.length c.if-branch-gt0.false c.write_at.ensures.noted)
    c.sync.ensures.noted

pub returns-then-branch-gt0-clause-calls : goal.returns-then-branch-gt0-clause-calls
returns-then-branch-gt0-clause-calls g c = grind (arith, closed_counted)

pub returns-clause-calls : goal.returns-clause-calls
returns-clause-calls g c = grind (arith, wrote_counted)
