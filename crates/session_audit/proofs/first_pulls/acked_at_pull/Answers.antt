use Rattle.std.proofs.Common.{◌∙◌, ◌+◌, ap, drop, sym}
use Rattle.session_audit.specs.{acked_at_pull}
use Rattle.session_audit.proofs.TakeCounts.{counts, passes_on}
use Rattle.session_audit.proofs.first_pulls.acked_at_pull.Goals.{in-Commit, in_default}
use Rattle.session_audit.proofs.first_pulls.acked_at_pull.Goals as goal

pub loop-entry-preserved : goal.loop-entry-preserved
loop-entry-preserved c =
    let tape = c.args.tape.now in
    let i = c.loop-entry.entry-index in
    let e = c.entry-item.result in
    let last = c.loop-entry.last in
    elim c.match-entry.branch [
      | in-Commit w ↦ ap (λ n. acked_at_pull n (drop (i + 1) tape)) w.last-is
          ∙ (sym (counts tape i e c.loop-entry-test.true c.entry-item.is (acked_at_pull last) _ w.in-Commit.is) ∙ c.loop-entry.invariant)
      | in_default w ↦ ap (λ n. acked_at_pull n (drop (i + 1) tape)) w.last-is
          ∙ (sym (passes_on tape i e c.loop-entry-test.true c.entry-item.is last w.in_default.not-Commit w.in_default.not-Pull)
          ∙ c.loop-entry.invariant)
    ]
