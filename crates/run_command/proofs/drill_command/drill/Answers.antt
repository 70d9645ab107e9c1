use Rattle.run_command.proofs.DrillPromises.{as_drill, promised}
use Rattle.run_command.proofs.Told.{some_weaker}
use Rattle.run_command.proofs.Understood.{drill_understood}
use Rattle.run_command.proofs.drill_command.drill.Goals as goal

pub returns-in-Ok-clause-drilled : goal.returns-in-Ok-clause-drilled
returns-in-Ok-clause-drilled g c =
    let drill = c.in-Ok.drill in
    let made = c.in-Ok.ensures in
    let before = g.P.Passes.stops c.args.passes.now in
    let now = g.P.Passes.stops c.run_drill.new.passes in
    let answer = c.run_drill.result.answer in
    some_weaker c.run_drill.result.session (λ s is.
    promised c.args.number c.args.tags c.args.events before now answer s
    (as_drill c.args.number c.args.tags c.args.events before now answer s drill.base drill.first drill.second
    (record { base_is = made.base; good = made.good; first_is = made.first; second_is = made.second }) is)) c.run_drill.ensures.session

pub returns-in-Ok-clause-understood : goal.returns-in-Ok-clause-understood
returns-in-Ok-clause-understood g c =
    drill_understood c.args.number c.args.tags c.args.events (g.P.Passes.stops c.args.passes.now)
    (g.P.Passes.stops c.run_drill.new.passes) c.run_drill.result.session c.run_drill.result.answer c.run_drill.ensures.unheld
    (returns-in-Ok-clause-drilled g c)
