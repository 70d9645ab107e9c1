-- The ranges of times, values and tunings.
use Rattle.std.specs.Prelude.{ℕ, ◌≤◌, unsigned_abs}
use Rattle.trend_num.specs.declared.point.Point.{Point}
use Rattle.trend_num.specs.declared.tuning.Tuning.{Tuning}

-- the last millisecond of the year 9999, in milliseconds from 1970
abbrev pub last_time : ℕ
last_time = 253402300799999

-- the greatest distance of a value from zero, and the greatest deviation, in value units
abbrev pub largest_value : ℕ
largest_value = 1000000000000000

-- a point whose time and value are in range
pub record InRange (p : Point) : Type 0 where
  pub time : p.t ≤ last_time
  pub value : unsigned_abs p.v ≤ largest_value

-- a tuning whose two deviations and three times are in range
pub record TuningInRange (tuning : Tuning) : Type 0 where
  pub exc_dev : tuning.exc_dev ≤ largest_value
  pub exc_max : tuning.exc_max ≤ last_time
  pub comp_dev : tuning.comp_dev ≤ largest_value
  pub comp_min : tuning.comp_min ≤ last_time
  pub comp_max : tuning.comp_max ≤ last_time
