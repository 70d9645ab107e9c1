use Rattle.std.proofs.Common.{arith}
use Rattle.core.proofs.dec2flt.DigitsLemmas.{ten_at}
use Rattle.point_text.specs.declared.plain_line.TheConstants.{TENS}
use Rattle.point_text.proofs.plain_line.ten_to.Goals as goal

pub returns : goal.returns
returns c = ten_at TENS 0 c.args.n c.args.n tt (omega arith) (omega arith)
