-- Values of the calculation language: whole numbers within a range, or Bad.
use Rattle.std.specs.Prelude.{◌≤◌, ◌≡◌, ℤ, pos, neg_ℤ, ◌+ℤ◌, ◌-ℤ◌, ◌*ℤ◌, ◌≤ℤ◌, ◌<ℤ◌, Bool, not, Option, None, Some, int_le, int_lt, nat_le, unsigned_abs, if◌then◌else◌}
use Rattle.std.specs.Int.{int_div_euclid}
use Rattle.std.specs.Ordering.{int_eq}
use Rattle.calc_parser.specs.{Op, Cmp, largest_number}
use Rattle.calc_parser.specs.declared.tree.Op.TheVariants.{Add, Sub, Mul, Div, Rem, Min, Max}
use Rattle.calc_parser.specs.declared.tree.Cmp.TheVariants.{Le, Ge, Ne, Lt, Gt, Eq}
use Rattle.trend_model.specs.{lesser, greater}
use Rattle.trend_num.specs.declared.value.Bad.TheVariants.{NoData, DivZero, Range}
use Rattle.trend_num.specs.{CalcValue}
use Rattle.trend_num.specs.declared.value.CalcValue.TheVariants.{Num, Bad}

-- a number as a value. A number outside the range is Bad
abbrev pub bounded : ℤ → CalcValue
bounded n = if nat_le (unsigned_abs n) largest_number then Num n else Bad Range

-- a value is a number in the range, or Bad
abbrev pub IsInRange : CalcValue → Type 0
IsInRange (Num n) = unsigned_abs n ≤ largest_number
IsInRange (Bad why) = Unit {0}

-- the value of a number that may be missing
abbrev pub measured_value : Option ℤ → CalcValue
measured_value None = Bad NoData
measured_value (Some n) = bounded n

-- the result of an operation on an operand. If the operand is Bad, it is the result
abbrev pub after_operation : CalcValue → (ℤ → CalcValue) → CalcValue
after_operation (Num n) f = f n
after_operation (Bad why) f = Bad why

-- the floor of the quotient of a by b
abbrev pub floor_div : ℤ → ℤ → ℤ
floor_div a b = if int_lt (pos 0) b then int_div_euclid a b else int_div_euclid (neg_ℤ a) (neg_ℤ b)

-- the remainder that the floor of the quotient leaves
abbrev pub floor_rem : ℤ → ℤ → ℤ
floor_rem a b = a -ℤ (b *ℤ floor_div a b)

-- the result of a division: Bad if the divisor is 0
abbrev pub divided : ℤ → ℤ → CalcValue
divided b n = if int_eq b (pos 0) then Bad DivZero else bounded n

-- the value of an operation
abbrev pub operated : Op → ℤ → ℤ → CalcValue
operated Add a b = bounded (a +ℤ b)
operated Sub a b = bounded (a -ℤ b)
operated Mul a b = bounded (a *ℤ b)
operated Div a b = divided b (floor_div a b)
operated Rem a b = divided b (floor_rem a b)
operated Min a b = bounded (lesser a b)
operated Max a b = bounded (greater a b)

-- whether a comparison holds
abbrev pub holds : Cmp → ℤ → ℤ → Bool
holds Le a b = int_le a b
holds Ge a b = int_le b a
holds Ne a b = not (int_eq a b)
holds Lt a b = int_lt a b
holds Gt a b = int_lt b a
holds Eq a b = int_eq a b

-- the value of a comparison: 1 where it holds, else 0
abbrev pub compared : Cmp → ℤ → ℤ → CalcValue
compared cmp a b = if holds cmp a b then Num (pos 1) else Num (pos 0)

-- q and r are the quotient and the remainder of a by b. The remainder is 0 or has the divisor's sign, and is nearer to
-- 0 than the divisor
pub record IsFloorDivision (a b q r : ℤ) : Type 0 where
  pub whole : a ≡ (b *ℤ q) +ℤ r
  pub above : pos 0 <ℤ b → (pos 0 ≤ℤ r) × (r <ℤ b)
  pub below : b <ℤ pos 0 → (b <ℤ r) × (r ≤ℤ pos 0)
