-- The value of a formula in a window, and the values of a group's calculations.
use Rattle.std.specs.Prelude.{ℕ, ℤ, pos, neg_ℤ, false, List, [], ◌∷◌, ◌++◌, map, fold, position, slice_get, Option, unwrap_or, option_and_then, unsigned_abs, if◌then◌else◌}
use Rattle.std.specs.Ordering.{int_eq}
use Rattle.std.specs.Str.{bytes_eq}
use Rattle.trend_num.specs.{Measure, Point, CalcValue}
use Rattle.trend_model.specs.{ContentState, points_of, window_value}
use Rattle.calc_parser.specs.Tree.{Tree, num, window, calc, neg, abs, two, compare, choose}
use Rattle.trend_num.specs.declared.value.Bad.TheVariants.{NoData}
use Rattle.trend_num.specs.declared.value.CalcValue.TheVariants.{Bad}
use Rattle.calc_check.specs.Group.{Group, names_of}
use Rattle.sheet_law.specs.Number.{bounded, measured_value, after_operation, operated, compared}

-- what names stand for: names of inputs for points that rise in time, names of earlier calculations for values
pub record Scope : Type 0 where
  pub points : List ℕ → Option (List Point)
  pub earlier : List ℕ → Option CalcValue

-- the value of a tree in the window from one time to another. Inputs are tags of lines, so their measures are those of
-- lines
abbrev pub value : Scope → ℕ → ℕ → Tree → CalcValue
value s from to (num n) = bounded n
value s from to (window m name) =
    measured_value (option_and_then (λ ps. window_value false m ps from to) (s.points name))
value s from to (calc name) = unwrap_or (s.earlier name) (Bad NoData)
value s from to (neg a) = after_operation (value s from to a) (λ n. bounded (neg_ℤ n))
value s from to (abs a) = after_operation (value s from to a) (λ n. bounded (pos (unsigned_abs n)))
value s from to (two op a b) = after_operation (value s from to a) (λ m. after_operation (value s from to b) (operated op m))
value s from to (compare cmp a b) =
    after_operation (value s from to a) (λ m. after_operation (value s from to b) (compared cmp m))
value s from to (choose c a b) =
    after_operation (value s from to c) (λ n. if int_eq n (pos 0) then value s from to b else value s from to a)

-- the element of a list at the place that a name has among names
abbrev pub at_name : {A : Type 0} → List (List ℕ) → List A → List ℕ → Option A
at_name names xs name = option_and_then (slice_get xs) (position (bytes_eq name) names)

-- what the names of a group stand for, given the points of its inputs and the values of its first calculations
abbrev pub scope : Group → List (List Point) → List CalcValue → Scope
scope g contents lower = record {
  points = at_name g.inputs contents;
  earlier = at_name (names_of g.calcs) lower;
}

-- the points of contents
abbrev pub points_in : List ContentState → List (List Point)
points_in contents = map (λ c. points_of c.records) contents

-- the values of a group's calculations in a window, in order. Each is evaluated with the points of the inputs and the
-- values before it
abbrev pub values : Group → List (List Point) → ℕ → ℕ → List CalcValue
values g contents from to =
    fold (λ lower c. lower ++ value (scope g contents lower) from to c.tree ∷ []) [] g.calcs

-- what an input of this name measures in a window
abbrev pub measure_of : Group → List (List Point) → ℕ → ℕ → Measure → List ℕ → Option ℤ
measure_of g contents from to m name =
    option_and_then (λ ps. window_value false m ps from to) (at_name g.inputs contents name)
