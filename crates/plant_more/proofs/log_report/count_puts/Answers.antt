use Rattle.std.proofs.Common.{◌+◌, ◌∙◌, length, refl, sym, take, arith}
use Rattle.commit_log.specs.{puts}
use Rattle.plant_more.specs.{log_rows}
use Rattle.plant_more.proofs.LogReports.{log_there, row_known}
use Rattle.plant_more.proofs.log_report.count_puts.Goals as goal

pub count-requires : goal.count-requires
count-requires c =
    let log = c.args.log.now in
    let place = length log.opening.items + length (puts (take c.loop-turn.turn log.tape.items)) in
    let there = log_there log c.loop-turn.turn place c.in-Put.row c.index.result.now
    (omega (arith, c.loop-turn-test.true, c.len-turn-end.ensures, log.tape.ok)) (sym c.index.ensures ∙ c.in-Put.is) refl in
    omega (arith, row_known (length c.args.rooms.now) (log_rows log) place c.in-Put.row c.requires there, c.loop-turn.auto.rooms)
