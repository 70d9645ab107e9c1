-- Two doors: the two values since the hinge that decide which lines fit (after Bristol).
use Rattle.std.specs.Prelude.{if◌then◌else◌, ℕ, ◌-◌, ◌<◌, ℤ, pos, ◌+ℤ◌, ◌-ℤ◌, ◌*ℤ◌, ◌≤ℤ◌, Bool, ◌&&◌, int_le, List}
use Rattle.trend_num.specs.{Point}
use Rattle.trend_model.specs.Lists.{IsAmong}

-- how far x, raised by `raise`, is above a, times how much later y is than a
abbrev pub climb : Point → Point → ℤ → Point → ℤ
climb a x raise y = ((x.v +ℤ raise) -ℤ a.v) *ℤ pos (y.t - a.t)

-- a number of value units downwards
abbrev pub down : ℕ → ℤ
down d = pos 0 -ℤ pos d

-- the slope from a to x raised by `raise` is at most the slope from a to y raised by `lift`, by cross products
abbrev pub IsNotSteeper : Point → Point → ℤ → Point → ℤ → Type 0
IsNotSteeper a x raise y lift = climb a x raise y ≤ℤ climb a y lift x

-- whether the one slope is at most the other
abbrev pub is_not_steeper : Point → Point → ℤ → Point → ℤ → Bool
is_not_steeper a x raise y lift = int_le (climb a x raise y) (climb a y lift x)

-- these values come after the hinge
abbrev pub AreAfter : Point → List Point → Type 0
AreAfter a values = (x : Point) → IsAmong x values → a.t < x.t

-- u and l are doors of these values: both are among them. No value has a lesser slope from the hinge than u, each
-- raised by d. No value has a greater slope than l, each lowered by d
pub record AreDoors (a : Point) (d : ℕ) (values : List Point) (u l : Point) : Type 0 where
  pub upper_there : IsAmong u values
  pub lower_there : IsAmong l values
  pub upper_least : (x : Point) → IsAmong x values → IsNotSteeper a u (pos d) x (pos d)
  pub lower_greatest : (x : Point) → IsAmong x values → IsNotSteeper a x (down d) l (down d)

-- whether the line from the hinge to p is admitted: it lies between the doors
abbrev pub is_admitted : Point → ℕ → Point → Point → Point → Bool
is_admitted a d u l p = is_not_steeper a p (pos 0) u (pos d) && is_not_steeper a l (down d) p (pos 0)

-- the upper door after p, and the lower one
abbrev pub upper_after : Point → ℕ → Point → Point → Point
upper_after a d u p = if is_not_steeper a u (pos d) p (pos d) then u else p

abbrev pub lower_after : Point → ℕ → Point → Point → Point
lower_after a d l p = if is_not_steeper a p (down d) l (down d) then l else p
