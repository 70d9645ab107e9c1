-- How many slopes are compared_values at most.
use Rattle.std.proofs.Common.{◌+◌, ◌*◌, ◌≤◌, pos, Bool, true, false, cond, List, [], ◌∷◌, Option, None, Some, length, arith}
use Rattle.trend_num.specs.{Point, Tuning}
use Rattle.trend_model.specs.{Sent, InOrder, Late, Tuned, is_admitted, is_not_steeper}
use Rattle.trend_model.specs.Walk.{is_short}
use Rattle.trend_model.specs.State.{Archive, archived}
use Rattle.tag_core.specs.Core.{line_compared, compared_on, compared_values}

-- four for one value
line_most : (t : Tuning) (p : Point) (a q u l : Option Point) → line_compared t p a q u l ≤ 4
line_most t p (Some a) (Some q) (Some u) (Some l) =
    by_tests (is_short t a p) (is_not_steeper a p (pos 0) u (pos t.comp_dev)) (is_admitted a t.comp_dev u l p)
  where
    by_tests : (short under admitted : Bool) → cond short (cond under 2 1 + cond admitted 2 0) 0 ≤ 4
    by_tests true true true = omega arith
    by_tests true true false = omega arith
    by_tests true false true = omega arith
    by_tests true false false = omega arith
    by_tests false under admitted = omega arith
line_most t p None q u l = omega arith
line_most t p (Some a) None u l = omega arith
line_most t p (Some a) (Some q) None l = omega arith
line_most t p (Some a) (Some q) (Some u) None = omega arith

on_most : (step : Bool) (c : Archive) (s : Sent) → compared_on step c s ≤ 4
on_most step c (Late x) = omega arith
on_most step c (Tuned u) = omega arith
on_most false c (InOrder p) = line_most c.tuning p c.hinge c.held c.upper c.lower
on_most true c (InOrder p) = omega arith

-- and for each thing that is sent
pub compared_most : (step : Bool) (c : Archive) (ss : List Sent) → compared_values step c ss ≤ 4 * length ss
compared_most step c [] = omega arith
compared_most step c (s ∷ ss) =
    let before = compared_most step c ss in
    let last = on_most step (archived step c ss) s in
    omega arith
