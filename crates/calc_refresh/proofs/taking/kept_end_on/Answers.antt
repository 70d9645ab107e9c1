use Rattle.std.proofs.Common.{arith}
use Rattle.calc_refresh.proofs.Turns.{kept_end-kept, kept_end-late}
use Rattle.calc_refresh.proofs.taking.kept_end_on.Goals as goal

pub returns-in-Late : goal.returns-in-Late
returns-in-Late c = λ rs is. omega (arith, kept_end-late rs c.args.rec c.in-Late.is)

pub returns-in-Kept : goal.returns-in-Kept
returns-in-Kept c = λ rs is. omega (arith, kept_end-kept rs c.args.rec c.in-Kept.is)
