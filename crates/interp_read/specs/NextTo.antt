-- The points next to a time.
use Rattle.std.specs.Prelude.{◌≡◌, ℕ, ◌<◌, ◌≤◌, List, ◌++◌, Option, All, slice_get}
use Rattle.trend_num.specs.{Point}
use Rattle.trend_model.specs.{PointsRise, last_point}

-- the points rise in time; `before` is the last of those before t, and `after` is the first of the others
pub record AreNeighbours (points : List Point) (t : ℕ) (before after : Option Point) : Type 0 where
  pub rises : PointsRise points
  pub earlier : List Point
  pub later : List Point
  pub whole : points ≡ earlier ++ later
  pub earlier_are : All (λ p. p.t < t) earlier
  pub later_are : All (λ p. t ≤ p.t) later
  pub last : last_point earlier ≡ before
  pub first : slice_get later 0 ≡ after
