use Rattle.std.proofs.Common.{refl}
use Rattle.exception_test.proofs.Histories.{stands_flushed, sends_flushed}
use Rattle.exception_test.proofs.gate.Gate.flush.Goals as goal

pub returns-clause-stands : goal.returns-clause-stands
returns-clause-stands c = stands_flushed _ _ c.or.ensures refl

pub returns-clause-sends : goal.returns-clause-sends
returns-clause-sends c = sends_flushed c.args.self.now _ refl
