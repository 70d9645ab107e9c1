use Rattle.std.proofs.Common.{◌≡◌, ◌+◌, ◌-◌, ◌+ℤ◌, pos, take, drop, refl, subst, sym, ap, ◌∙◌, arith, rules}
use Rattle.std.specs.Prelude.{FitsSigned}
use Rattle.std.specs.Int.{w128}
use Rattle.std.proofs.lemmas.Int.{to_z-of_z}
use mir.Val.{of_z, to_z}
use Rattle.trend_num.specs.{InRange}
use Rattle.trend_model.specs.{area}
use Rattle.late_insert.proofs.Summing.{IsTotal, points_in, rec_in_range, total_first, area_total, total_fits}
use Rattle.late_insert.proofs.total.area_between.Goals as goal
use Rattle.late_insert.proofs.total.area_between.Goals.{After-piece-area}

pub loop-i-init : goal.loop-i-init
loop-i-init c =
    let back : c.args.start + 1 - 1 ≡ c.args.start = omega arith in
    let within = c.requires.within in
    record {
      total = total_first (area c.args.step) c.args.frame.now c.args.start c.point_at-before.result (pos 0)
          (omega arith)
          c.point_at-before.ensures.value refl;
      upto = omega (arith, c.requires.some);
      last = rw back c.point_at-before.ensures.value;
    }

pub piece-area-requires-clause-first : goal.piece-area-requires-clause-first
piece-area-requires-clause-first c =
    subst InRange (sym c.loop-i.invariant.last)
    (rec_in_range c.args.frame.now _ c.requires.recorded
    (omega (arith, c.loop-i.invariant.total.below, c.loop-i.invariant.total.within)))

-- one point more
more : (c : After-piece-area)
    → IsTotal (area c.args.step) c.args.frame.now c.args.start (c.loop-i.i + 1) (to_z w128 c.loop-i.area-bits +ℤ to_z w128 (of_z w128 c.piece-area.result))
more c =
    let line : FitsSigned w128 c.piece-area.result = search rules in
    rw (to_z-of_z w128 c.piece-area.result line, c.piece-area.ensures)
    (area_total c.args.frame.now c.args.start c.loop-i.i c.loop-i.invariant.total.below
    (omega (arith, c.loop-i-test.true, c.requires.within))
    c.args.step c.loop-i.before c.point_at-p.result _ c.loop-i.invariant.total c.loop-i.invariant.last
    c.point_at-p.ensures.value)

pub overflow_add-area : goal.overflow_add-area
overflow_add-area c = total_fits c.args.step c.args.frame.now c.args.start _ _ c.requires.recorded
    (more (goal.at.overflow_add-area c).After-piece-area)

pub loop-i-preserved : goal.loop-i-preserved
loop-i-preserved c =
    let total = more (goal.at.loop-i-preserved c).After-piece-area in
    let sum = total_fits c.args.step c.args.frame.now c.args.start _ _ c.requires.recorded total in
    let back : c.loop-i.i + 1 - 1 ≡ c.loop-i.i = omega arith in
    record {
      total = rw (to_z-of_z w128 _ sum) total;
      upto = omega (arith, c.loop-i-test.true);
      last = rw back c.point_at-p.ensures.value;
    }

pub returns : goal.returns
returns c =
    let all : c.loop-i.i ≡ c.args.end = omega (arith, c.loop-i.invariant.upto) in
    c.loop-i.invariant.total.is ∙ ap (λ n. area c.args.step
    (take (n - c.args.start) (drop c.args.start (points_in c.args.frame.now)))) all
