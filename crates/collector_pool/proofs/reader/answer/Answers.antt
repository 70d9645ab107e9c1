use Rattle.collector_pool.proofs.Endings.{ends_at_row}
use Rattle.collector_pool.proofs.reader.answer.Goals as goal

pub returns-clause-ending : goal.returns-clause-ending
returns-clause-ending g c =
    rw (c.in-Row.is, c.ending_of_turn.ensures) (ends_at_row _ c.in-Row.group c.in-Row.calc c.in-Row.k c.in-Err-ask.no c.in-Err-ask.ensures)
