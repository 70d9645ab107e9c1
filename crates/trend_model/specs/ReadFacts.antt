-- What the laws about reads and windows say of values.
use Rattle.std.specs.Prelude.{ℤ, pos, ◌*ℤ◌, ◌≤ℤ◌}
use Rattle.trend_num.specs.{Frac}
use Rattle.trend_model.specs.Windows.{lesser, greater}

-- a value that is not below the lesser of two and not above the greater
pub record IsBetween (u w n : ℤ) : Type 0 where
  pub not_below : lesser u w ≤ℤ n
  pub not_above : n ≤ℤ greater u w

-- a fraction whose value is such
pub record IsFracBetween (u w : ℤ) (f : Frac) : Type 0 where
  pub not_below : (lesser u w *ℤ pos f.den) ≤ℤ f.num
  pub not_above : f.num ≤ℤ (greater u w *ℤ pos f.den)
