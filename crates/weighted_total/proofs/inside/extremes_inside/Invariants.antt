use Rattle.std.proofs.Common.{length}
use Rattle.std.specs.Prelude.{slice_range}
use Rattle.trend_model.specs.{points_of}
use Rattle.weighted_total.proofs.Walking.{IsSpread}
use Rattle.weighted_total.proofs.inside.extremes_inside.Given as goal

abbrev pub invariant-loop-run : goal.invariant-loop-run
invariant-loop-run l =
    IsSpread l.fn.start (slice_range (points_of l.content.records) l.first l.behind) l.runs l.extremes.low
    l.extremes.high

abbrev pub decreases-loop-run : goal.decreases-loop-run
decreases-loop-run l = length l.runs
