use Rattle.std.proofs.Common.{arith}
use Rattle.std.proofs.lemmas.Int.{to_z-of_z}
use Rattle.trend_model.proofs.Rounding.{rounded_only}
use Rattle.interp_read.proofs.Readable.{num_back}
use Rattle.weighted_total.proofs.Sums.{last_joined}
use Rattle.weighted_total.proofs.measure.value_between.Goals as goal

pub returns-in-Avg : goal.returns-in-Avg
returns-in-Avg c = grind (arith, num_back, rounded_only, to_z-of_z)

pub returns-in-Last : goal.returns-in-Last
returns-in-Last c = grind (arith, last_joined)
