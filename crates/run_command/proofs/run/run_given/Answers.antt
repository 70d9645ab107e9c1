use Rattle.std.proofs.Common.{◌∙◌}
use Rattle.run_command.proofs.Roomy.{opened_roomy}
use Rattle.run_command.proofs.Unheld.{unopened_is_no_fault}
use Rattle.run_command.proofs.run.run_given.Goals as goal

pub hold_open-answer-requires-clause-roomy : goal.hold_open-answer-requires-clause-roomy
hold_open-answer-requires-clause-roomy g c κs within =
    opened_roomy c.args.given.now.rooms.items c.in-Ok.opened.plant.cells.items (c.in-Ok.ensures.rooms ∙ c.deref.ensures.value)

pub returns-in-Ok-clause-session : goal.returns-in-Ok-clause-session
returns-in-Ok-clause-session g c =
    c.hold_open-answer.ensures (g.S.Store.device_at c.args.store.now) (g.S.Store.fault_count c.args.store.now) c.requires.begun c.in-Ok.ensures.opened
    c.open_session.ensures.others c.in-Ok.ensures.counts

pub returns-in-Err-clause-unheld : goal.returns-in-Err-clause-unheld
returns-in-Err-clause-unheld g c = λ none. rw c.refused.ensures.answer c.in-Err.ensures.refused

pub returns-in-Err-clause-other : goal.returns-in-Err-clause-other
returns-in-Err-clause-other g c = λ none.
    rw c.refused.ensures.answer (unopened_is_no_fault _ _ _ _ _ c.in-Err.why c.in-Err.ensures.refused)

pub returns-in-Err-clause-counts : goal.returns-in-Err-clause-counts
returns-in-Err-clause-counts g c = λ none few. rw c.refused.ensures.answer (c.in-Err.ensures.counts few)
