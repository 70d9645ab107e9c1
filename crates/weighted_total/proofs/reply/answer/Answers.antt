use Rattle.std.proofs.Common.{arith}
use Rattle.weighted_total.proofs.reply.answer.Goals as goal

pub returns-in_ok-list-in-Points-clause-answers : goal.returns-in_ok-list-in-Points-clause-answers
returns-in_ok-list-in-Points-clause-answers c = grind arith
