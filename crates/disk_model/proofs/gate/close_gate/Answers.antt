use Rattle.std.proofs.Common.{arith}
use Rattle.std.proofs.lemmas.Grind.{common_steps}
use Rattle.disk_model.proofs.Closings.{closing_kept, closing_wrote, closing_answered, shut_counted, open_counted}
use Rattle.disk_model.proofs.gate.close_gate.Goals as goal

pub returns-clause-reads : goal.returns-clause-reads
returns-clause-reads g c = grind (arith, closing_answered)

pub returns-in_err-read-clause-any_moment : goal.returns-in_err-read-clause-any_moment
returns-in_err-read-clause-any_moment g c = closing_kept _ _ c.args.gate c.read.ensures.same

pub returns-then-byte-clause-any_moment : goal.returns-then-byte-clause-any_moment
returns-then-byte-clause-any_moment g c = closing_kept _ _ c.args.gate c.read.ensures.same

pub returns-clause-any_moment : goal.returns-clause-any_moment
returns-clause-any_moment g c = grind (arith, closing_wrote)

pub returns-then-byte-clause-calls : goal.returns-then-byte-clause-calls
returns-then-byte-clause-calls g c = grind (arith, common_steps, shut_counted)

pub returns-clause-calls : goal.returns-clause-calls
returns-clause-calls g c = grind (arith, open_counted)
