-- The tests of a slot as facts.
use Rattle.std.proofs.Common.{arith, ◌≡◌, true}
use Rattle.std.proofs.lemmas.{Bool.and_parts, Bool.and_from, Bool.leb-true, Bool.le-leb}
use Rattle.trend_num.specs.{declared.point.Point.Point, Ranges.InRange}
use Rattle.device_layout.specs.{is_in_range}

-- the test of a point that is in range
pub inside_is : (p : Point) → InRange p → is_in_range p ≡ true
inside_is p inside = grind (arith, and_from, le-leb)

-- and one that passes it
pub is_inside : (p : Point) → is_in_range p ≡ true → InRange p
is_inside p ok = grind (arith, and_parts, leb-true)
