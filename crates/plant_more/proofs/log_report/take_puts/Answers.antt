use Rattle.std.proofs.Common.{◌≡◌, ◌<◌, Some, length, slice_get, ◌∙◌, sym, arith}
use Rattle.commit_log.specs.declared.history.LogTurn.TheVariants.{Put}
use Rattle.commit_log.specs.{LogRow}
use Rattle.plant_more.specs.{log_rows}
use Rattle.plant_more.proofs.LogReports.{few_before, log_there, other_reached, put_reached}
use Rattle.plant_more.proofs.log_report.take_puts.Goals as goal
use Rattle.plant_more.proofs.log_report.take_puts.Goals.{After-index, in-Put+in_ok-take_row, in_default}

-- the turn is one of the tape
within : (g : _) (c : After-index g) → c.loop-turn.turn < length c.args.log.now.tape.items
within g c = omega (arith, c.loop-turn-test.true, c.len-turn-end.ensures, c.args.log.now.tape.ok)

-- a row that it puts is the next one of the log
there : (g : _) (c : After-index g) (row : LogRow) → c.index.result.now ≡ Put row
    → slice_get (log_rows c.args.log.now) c.loop-turn.place ≡ Some row
there g c row is =
    log_there c.args.log.now c.loop-turn.turn c.loop-turn.place row c.index.result.now (within g c) (sym c.index.ensures ∙ is)
    c.loop-turn.invariant.reached

pub take_row-requires-clause-there : goal.take_row-requires-clause-there
take_row-requires-clause-there g c =
    let at = (goal.at.take_row-requires-clause-there g c).After-index in
    there g at c.in-Put.row c.in-Put.is

pub overflow_add-place : goal.overflow_add-place
overflow_add-place g c =
    let at = (goal.at.overflow_add-place g c).After-index in
    record { fits = few_before c.args.log.now c.loop-turn.place c.in-Put.row (there g at c.in-Put.row c.in-Put.is) }

pub loop-turn-preserved : goal.loop-turn-preserved
loop-turn-preserved g c =
    let at = (goal.at.loop-turn-preserved g c).After-index in
    let log = c.args.log.now in
    let was = c.loop-turn.invariant in
    elim c.match-index.branch [
      | in-Put+in_ok-take_row w ↦ rw (w.place-is, w.cores-is) (record {
        reached = put_reached log c.loop-turn.turn c.loop-turn.place w.in-Put.row c.index.result.now (within g at)
            (sym c.index.ensures ∙ w.in-Put.is) was.reached;
        standing = w.in_ok-take_row.ensures.standing;
        room = w.in_ok-take_row.ensures.room;
      })
      | in_default w ↦ rw (w.place-is, w.cores-is) (record {
        reached = other_reached log c.loop-turn.turn c.loop-turn.place c.index.result.now (within g at)
            (λ row is. w.in_default.not-Put row (c.index.ensures ∙ is)) was.reached;
        standing = was.standing;
        room = was.room;
      })
    ]
