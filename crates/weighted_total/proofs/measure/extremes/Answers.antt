use Rattle.std.proofs.Common.{arith}
use Rattle.std.proofs.lemmas.Int.{to_z-of_z}
use Rattle.weighted_total.proofs.Measuring.{end_in_range, greatest_of_stair, least_of_stair}
use Rattle.interp_read.proofs.Readable.{value_fits}
use Rattle.weighted_total.proofs.Sums.{greatest_joined, least_joined}
use Rattle.weighted_total.proofs.measure.extremes.Goals as goal

pub returns-then-step-clause-low : goal.returns-then-step-clause-low
returns-then-step-clause-low c = grind (arith, least_of_stair)

pub returns-then-step-clause-high : goal.returns-then-step-clause-high
returns-then-step-clause-high c = grind (arith, greatest_of_stair)

pub returns-clause-low : goal.returns-clause-low
returns-clause-low c = grind (arith, to_z-of_z, value_fits, end_in_range, least_joined)

pub returns-clause-high : goal.returns-clause-high
returns-clause-high c = grind (arith, to_z-of_z, value_fits, end_in_range, greatest_joined)
