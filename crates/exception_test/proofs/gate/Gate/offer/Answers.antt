use Rattle.exception_test.proofs.Histories.{stands_on, sends_on}
use Rattle.exception_test.proofs.gate.Gate.offer.Goals as goal

pub returns-clause-stands : goal.returns-clause-stands
returns-clause-stands c = stands_on _ _ _ _ c.advance.ensures.last c.advance.ensures.pending

pub returns-clause-sends : goal.returns-clause-sends
returns-clause-sends c = sends_on _ c.args.self.now _ _ _ c.advance.ensures.first c.advance.ensures.second
