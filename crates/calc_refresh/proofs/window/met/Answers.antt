use Rattle.calc_refresh.proofs.Spans.{met_are}
use Rattle.std.proofs.Common.{arith}
use Rattle.calc_refresh.proofs.window.met.Goals as goal

pub returns : goal.returns
returns c = grind (arith, met_are)
