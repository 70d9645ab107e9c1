use Rattle.std.proofs.Common.{◌≡◌, ℤ, Bool, ◌+◌, ◌+ℤ◌, ◌-◌, true, false, take, drop, subst, sym, ap, ◌∙◌, refl, arith, rules}
use Rattle.std.specs.Prelude.{FitsSigned}
use Rattle.std.specs.Int.{w64, w128}
use Rattle.std.proofs.lemmas.Int.{to_z-of_z}
use Rattle.trend_num.specs.{InRange}
use mir.Val.{of_z, to_z}
use Rattle.trend_model.specs.{area, piece}
use Rattle.late_insert.specs.declared.total.Extreme.TheVariants.{Least, Greatest}
use Rattle.late_insert.specs.{least_of, greatest_of}
use Rattle.late_insert.proofs.Summing.{IsTotal, points_in, rec_in_range, value_fits, area_total, extreme_total, total_fits, whole_range}
use Rattle.late_insert.proofs.total.totals_of.Goals as goal
use Rattle.late_insert.proofs.total.totals_of.Goals.{After-point_at-p}

-- the last point is in range
before : (c : After-point_at-p) → InRange c.loop-i.before
before c =
    subst InRange (sym c.loop-i.invariant.last)
    (rec_in_range c.args.frame.now _ c.requires.recorded
    (omega (arith, c.loop-i.invariant.line.below, c.loop-i.invariant.line.within)))

-- a total and the piece after it fit
more_fits : (step : Bool) (c : After-point_at-p) (all part : ℤ) → IsTotal (area step) c.args.frame.now 0 c.loop-i.i all
    → FitsSigned w128 part → part ≡ piece step c.loop-i.before c.point_at-p.result
    → FitsSigned w128 (to_z w128 (of_z w128 all) +ℤ to_z w128 (of_z w128 part))
more_fits step c all part was fits part_is =
    let total = area_total c.args.frame.now 0 c.loop-i.i c.loop-i.invariant.line.below c.loop-i-test.true step
    c.loop-i.before c.point_at-p.result _ was c.loop-i.invariant.last c.point_at-p.ensures.value in
    rw (to_z-of_z w128 all (total_fits step c.args.frame.now 0 _ _ c.requires.recorded was), to_z-of_z w128 part fits, part_is)
    (total_fits step c.args.frame.now 0 _ _ c.requires.recorded total)

pub piece-requires-clause-first : goal.piece-requires-clause-first
piece-requires-clause-first c = before (goal.at.piece-requires-clause-first c).After-point_at-p

pub overflow_add-all : goal.overflow_add-all
overflow_add-all c =
    more_fits false (goal.at.overflow_add-all c).After-point_at-p c.loop-i.all.line c.piece.result c.loop-i.invariant.line (search rules)
    c.piece.ensures

pub piece-requires-in-loop-i-clause-first : goal.piece-requires-in-loop-i-clause-first
piece-requires-in-loop-i-clause-first c = before (goal.at.piece-requires-in-loop-i-clause-first c).After-point_at-p

pub overflow_add-all-in-loop-i : goal.overflow_add-all-in-loop-i
overflow_add-all-in-loop-i c =
    more_fits true (goal.at.overflow_add-all-in-loop-i c).After-point_at-p c.loop-i.all.stair c.piece-in-loop-i.result
    c.loop-i.invariant.stair (search rules) c.piece-in-loop-i.ensures

pub loop-i-preserved : goal.loop-i-preserved
loop-i-preserved c =
    let f = c.args.frame.now in
    let i = c.loop-i.i in
    let p = c.point_at-p.result in
    let was = c.loop-i.invariant in
    let next = c.point_at-p.ensures.value in
    let some = was.line.below in
    let within = c.loop-i-test.true in
    let first : FitsSigned w128 c.piece.result = search rules in
    let second : FitsSigned w128 c.piece-in-loop-i.result = search rules in
    let line = area_total f 0 i some within false c.loop-i.before p _ was.line was.last next in
    let stair = area_total f 0 i some within true c.loop-i.before p _ was.stair was.last next in
    let least : FitsSigned w64 c.min.result = search rules in
    let greatest : FitsSigned w64 c.max.result = search rules in
    let low : FitsSigned w64 c.loop-i.all.low = search rules in
    let high : FitsSigned w64 c.loop-i.all.high = search rules in
    let value = value_fits p c.point_at-p.ensures.range in
    let back : i + 1 - 1 ≡ i = omega arith in
    record {
      line = rw (
        to_z-of_z w128 c.loop-i.all.line (total_fits false f 0 _ _ c.requires.recorded was.line),
        to_z-of_z w128 c.piece.result first,
        c.piece.ensures,
        to_z-of_z w128 _ (total_fits false f 0 _ _ c.requires.recorded line),
      ) line;
      stair = rw (
        to_z-of_z w128 c.loop-i.all.stair (total_fits true f 0 _ _ c.requires.recorded was.stair),
        to_z-of_z w128 c.piece-in-loop-i.result second,
        c.piece-in-loop-i.ensures,
        to_z-of_z w128 _ (total_fits true f 0 _ _ c.requires.recorded stair),
      ) stair;
      low = rw (
        to_z-of_z w64 c.min.result least,
        c.min.ensures.value,
        to_z-of_z w64 c.loop-i.all.low low,
        to_z-of_z w64 p.v value,
      ) (extreme_total f 0 i some within Least p _ _ was.low next refl);
      high = rw (
        to_z-of_z w64 c.max.result greatest,
        c.max.ensures.value,
        to_z-of_z w64 c.loop-i.all.high high,
        to_z-of_z w64 p.v value,
      ) (extreme_total f 0 i some within Greatest p _ _ was.high next refl);
      last = rw back next;
    }

pub returns-clause-line : goal.returns-clause-line
returns-clause-line c =
    let all : c.loop-i.i ≡ c.args.frame.now.len = omega (arith, c.loop-i.invariant.line.within) in
    c.loop-i.invariant.line.is ∙ (ap (λ n. area false (take (n - 0) (drop 0 (points_in c.args.frame.now)))) all
    ∙ ap (area false) (whole_range c.args.frame.now))

pub returns-clause-stair : goal.returns-clause-stair
returns-clause-stair c =
    let all : c.loop-i.i ≡ c.args.frame.now.len = omega (arith, c.loop-i.invariant.line.within) in
    c.loop-i.invariant.stair.is ∙ (ap (λ n. area true (take (n - 0) (drop 0 (points_in c.args.frame.now)))) all
    ∙ ap (area true) (whole_range c.args.frame.now))

pub returns-clause-low : goal.returns-clause-low
returns-clause-low c =
    let all : c.loop-i.i ≡ c.args.frame.now.len = omega (arith, c.loop-i.invariant.line.within) in
    c.loop-i.invariant.low.is ∙ (ap (λ n. least_of (take (n - 0) (drop 0 (points_in c.args.frame.now)))) all
    ∙ ap least_of (whole_range c.args.frame.now))

pub returns-clause-high : goal.returns-clause-high
returns-clause-high c =
    let all : c.loop-i.i ≡ c.args.frame.now.len = omega (arith, c.loop-i.invariant.line.within) in
    c.loop-i.invariant.high.is ∙ (ap (λ n. greatest_of (take (n - 0) (drop 0 (points_in c.args.frame.now)))) all
    ∙ ap greatest_of (whole_range c.args.frame.now))
