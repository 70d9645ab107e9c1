-- Two doors at their hinge.
use Rattle.std.specs.Prelude.{ℕ, ◌<◌, ◌≤◌}
use Rattle.trend_num.specs.{Point, InRange, largest_value}

-- a hinge, a deviation in value units, and an upper and a lower door
pub record Hung : Type 0 where
  pub hinge : Point
  pub deviation : ℕ
  pub upper : Point
  pub lower : Point

-- all are in range, and the doors come after the hinge
pub record AreHung (hinge : Point) (deviation : ℕ) (upper lower : Point) : Type 0 where
  pub hinge_in_range : InRange hinge
  pub deviation_in_range : deviation ≤ largest_value
  pub upper_in_range : InRange upper
  pub lower_in_range : InRange lower
  pub upper_after : hinge.t < upper.t
  pub lower_after : hinge.t < lower.t
