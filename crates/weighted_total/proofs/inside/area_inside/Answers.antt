use Rattle.std.proofs.Common.{arith, rules}
use Rattle.std.specs.Prelude.{FitsSigned, slice_range}
use Rattle.std.specs.Int.{w128}
use Rattle.std.proofs.lemmas.Int.{to_z-of_z}
use Rattle.trend_model.specs.{points_of, area}
use Rattle.weighted_total.proofs.Walking.{IsRunOf, IsStep, inner_range, taken_none, walk_step, walk_more, walk_all}
use Rattle.weighted_total.proofs.inside.area_inside.Goals as goal
use Rattle.weighted_total.proofs.inside.area_inside.Goals.{After-area}

pub loop-run-init : goal.loop-run-init
loop-run-init c = grind (arith, taken_none)

-- a run is the first part of what is left
next : (c : After-area) → IsRunOf c.loop-run.runs c.in-Some.run' c.next.new.self c.first.result c.last.result
next c = record { split = c.in-Some.ensures.front; first = c.first.ensures.value; last = c.last.ensures.value }

-- so the walk continues by it
step : (c : After-area) → IsStep c.args.step c.loop-run.area.last c.first.result c.loop-run.area.twice (area c.args.step c.in-Some.run')
step c =
    walk_step c.args.step c.args.start (slice_range (points_of c.args.content.now.records) c.args.first c.args.behind) _ _ _ _ _ _ _
    c.loop-run.invariant.walked (next c) c.requires.start
    (inner_range c.args.content.now.records c.args.first c.args.behind c.len-len.ensures.range) c.requires.rises

pub joined-area-requires-clause-order : goal.joined-area-requires-clause-order
joined-area-requires-clause-order c = (step (goal.at.joined-area-requires-clause-order c).After-area).order

pub joined-area-requires-clause-small : goal.joined-area-requires-clause-small
joined-area-requires-clause-small c = (step (goal.at.joined-area-requires-clause-small c).After-area).small

pub joined-area-requires-clause-small_part : goal.joined-area-requires-clause-small_part
joined-area-requires-clause-small_part c =
    let fits : FitsSigned w128 c.area.result = search rules in
    rw (to_z-of_z w128 c.area.result fits, c.area.ensures)
    (step (goal.at.joined-area-requires-clause-small_part c).After-area).small_part

pub loop-run-preserved : goal.loop-run-preserved
loop-run-preserved c = grind (arith, to_z-of_z, walk_more, next)

pub returns : goal.returns
returns c =
    let all = walk_all c.args.step c.args.start _ _ _ _ c.loop-run.invariant.walked
    c.in_default.ensures.none in
    record { area = all.0; last = all.1; range = c.loop-run.invariant.range }
