use Rattle.std.proofs.Common.{◌≡◌, ◌-◌, take, drop, ap, ◌∙◌, arith, rules}
use Rattle.std.specs.Prelude.{FitsSigned}
use Rattle.std.specs.Int.{w64}
use Rattle.std.proofs.lemmas.Int.{to_z-of_z}
use Rattle.late_insert.specs.{extreme_of}
use Rattle.late_insert.proofs.Summing.{points_in, value_fits, total_first, extreme_one, extreme_total}
use Rattle.late_insert.proofs.total.extreme_between.Goals as goal

pub loop-i-init : goal.loop-i-init
loop-i-init c =
    let within = c.requires.within in
    let fits = value_fits c.point_at-value.result c.point_at-value.ensures.range in
    record {
      total = simp to_z-of_z
          (total_first (extreme_of c.args.extreme) c.args.frame.now c.args.start c.point_at-value.result
          c.point_at-value.result.v (omega arith) c.point_at-value.ensures.value
          (extreme_one c.args.extreme c.point_at-value.result));
      upto = omega (arith, c.requires.some);
    }

pub loop-i-preserved : goal.loop-i-preserved
loop-i-preserved c =
    let fits : FitsSigned w64 c.outer-value.result = search rules in
    let value = value_fits c.point_at.result c.point_at.ensures.range in
    record {
      total = rw (to_z-of_z w64 c.outer-value.result fits)
          (extreme_total c.args.frame.now c.args.start c.loop-i.i c.loop-i.invariant.total.below
          (omega (arith, c.loop-i-test.true, c.requires.within)) c.args.extreme
          c.point_at.result _ _ c.loop-i.invariant.total c.point_at.ensures.value
          (rw (to_z-of_z w64 c.point_at.result.v value) at c.outer-value.ensures));
      upto = omega (arith, c.loop-i-test.true);
    }

pub returns : goal.returns
returns c =
    let all : c.loop-i.i ≡ c.args.end = omega (arith, c.loop-i.invariant.upto) in
    c.loop-i.invariant.total.is ∙ ap (λ n. extreme_of c.args.extreme
    (take (n - c.args.start) (drop c.args.start (points_in c.args.frame.now)))) all
