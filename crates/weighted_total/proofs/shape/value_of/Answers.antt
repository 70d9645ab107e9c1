use Rattle.std.proofs.Common.{arith}
use Rattle.interp_read.proofs.Readable.{cast_back, num_back, rounded_is, value_fits}
use Rattle.weighted_total.proofs.shape.value_of.Goals as goal

pub overflow_cast-result : goal.overflow_cast-result
overflow_cast-result c = grind (arith, rounded_is, num_back, value_fits)

pub returns-in-Line : goal.returns-in-Line
returns-in-Line c = grind (arith, rounded_is, cast_back)
