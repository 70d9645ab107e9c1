-- How far a point lies from a straight line, in whole numbers.
use Rattle.std.specs.Prelude.{ℕ, ℤ, pos, ◌-◌, ◌*◌, ◌≤◌, ◌+ℤ◌, ◌-ℤ◌, ◌*ℤ◌, ◌≤ℤ◌, ◌<ℤ◌, Bool, nat_le, unsigned_abs}
use Rattle.std.specs.declared.cmp.Ordering.{Ordering}
use Rattle.std.specs.Ordering.{int_cmp}
use Rattle.trend_num.specs.declared.point.Point.{Point}
use Rattle.trend_num.specs.declared.fraction.Frac.{Frac}

-- how far x is above the line from a to b, times the line's length in time
abbrev pub cross : Point → Point → Point → ℤ
cross a b x = ((x.v -ℤ a.v) *ℤ pos (b.t - a.t)) -ℤ ((b.v -ℤ a.v) *ℤ pos (x.t - a.t))

-- x is at most d above or below the line from a to b
abbrev pub Within : Point → Point → Point → ℕ → Type 0
Within a b x d = unsigned_abs (cross a b x) ≤ d * (b.t - a.t)

-- whether x is at most d above or below the line from a to b
abbrev pub is_within : Point → Point → Point → ℕ → Bool
is_within a b x d = nat_le (unsigned_abs (cross a b x)) (d * (b.t - a.t))

-- the value at t of the line from a to b, as a fraction that is not reduced
abbrev pub line_value : Point → Point → ℕ → Frac
line_value a b t = record {
  num = (a.v *ℤ pos (b.t - a.t)) +ℤ ((b.v -ℤ a.v) *ℤ pos (t - a.t));
  den = b.t - a.t;
}

-- n is the whole number nearest to num / den, the upper of two equally near ones: n ≤ num / den + 1/2 < n + 1
pub record IsRounded (num : ℤ) (den : ℕ) (n : ℤ) : Type 0 where
  pub not_above : (n *ℤ pos (2 * den)) ≤ℤ ((pos 2 *ℤ num) +ℤ pos den)
  pub not_below : ((pos 2 *ℤ num) +ℤ pos den) <ℤ ((n +ℤ pos 1) *ℤ pos (2 * den))

-- how the slope from a to x raised by dx compares with the slope from a to y raised by dy, by cross products
abbrev pub compare_slopes : Point → Point → ℤ → Point → ℤ → Ordering
compare_slopes a x dx y dy =
    int_cmp (((x.v +ℤ dx) -ℤ a.v) *ℤ pos (y.t - a.t)) (((y.v +ℤ dy) -ℤ a.v) *ℤ pos (x.t - a.t))
