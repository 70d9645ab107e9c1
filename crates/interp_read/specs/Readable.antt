-- Reads that can be rounded to a value.
use Rattle.std.specs.Prelude.{◌^◌, ◌<◌, ◌≤◌, unsigned_abs}
use Rattle.trend_num.specs.{Frac, Reading, largest_value, last_time}
use Rattle.trend_num.specs.declared.reading.Reading.TheVariants.{Exact, Line, Flat, Nothing}
use Rattle.trend_model.specs.{rounded}

-- a fraction that can be rounded, to a value in range
pub record IsRoundable (f : Frac) : Type 0 where
  pub some : 0 < f.den
  pub few : f.den ≤ last_time
  pub small : unsigned_abs f.num ≤ 10 ^ 30
  pub value : unsigned_abs (rounded f.num f.den) ≤ largest_value

-- a read whose value is in range
abbrev pub IsReadable : Reading → Type 0
IsReadable (Exact v) = unsigned_abs v ≤ largest_value
IsReadable (Line f) = IsRoundable f
IsReadable (Flat v) = unsigned_abs v ≤ largest_value
IsReadable Nothing = Unit {0}
