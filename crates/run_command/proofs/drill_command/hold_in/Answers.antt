use Rattle.std.proofs.Common.{◌∙◌}
use Rattle.run_command.proofs.Roomy.{opened_roomy}
use Rattle.run_command.proofs.drill_command.hold_in.Goals as goal

pub hold_drill-answer-requires-clause-roomy : goal.hold_drill-answer-requires-clause-roomy
hold_drill-answer-requires-clause-roomy g c κs within =
    opened_roomy c.args.second.now.rooms.items _ (c.in-Ok.ensures.rooms ∙ c.deref.ensures.value)

pub returns-in-Ok-clause-session : goal.returns-in-Ok-clause-session
returns-in-Ok-clause-session g c =
    c.hold_drill-answer.ensures (g.S.Store.device_at c.args.store.now) (g.S.Store.fault_count c.args.store.now) c.requires.begun c.in-Ok.ensures.opened
    c.open_session.ensures.others c.in-Ok.ensures.counts

pub returns-in-Err-clause-unheld : goal.returns-in-Err-clause-unheld
returns-in-Err-clause-unheld g c = λ none. rw c.refused.ensures.answer
    (record { cause = c.in-Err.why; told = c.drill_status.ensures; unopened = c.in-Err.ensures.refused })
