-- What a list of points reads as. The points rise in time, as those of a content do. A read depends only on the points
-- of the list. The first argument says whether they are those of a step tag.
use Rattle.std.specs.Prelude.{if◌then◌else◌, ℕ, ◌*◌, ℤ, pos, ◌+ℤ◌, ◌*ℤ◌, Bool, ◌&&◌, List, [], ◌∷◌, Option, None, Some, nat_eq, nat_le, nat_lt}
use Rattle.std.specs.Int.{int_div_euclid}
use Rattle.std.specs.List.{filter}
use Rattle.trend_num.specs.{Point, Reading, line_value}
use Rattle.trend_num.specs.declared.reading.Reading.TheVariants.{Exact, Line, Flat, Nothing}

-- between p and q a line goes from the one value to the other, and a stair keeps the first
abbrev pub between : Bool → Point → Point → ℕ → Reading
between step p q t = if step then Flat p.v else Line (line_value p q t)

-- the read at t, from the point p on
abbrev pub read_from : Bool → Point → List Point → ℕ → Reading
read_from step p [] t = if nat_eq p.t t then Exact p.v else Flat p.v
read_from step p (q ∷ ps) t =
    if nat_eq p.t t then Exact p.v
    else if nat_lt t q.t then between step p q t
    else read_from step q ps t

-- the read at t: exact at a point, by the line or the stair between two points, flat after the last, nothing before the
-- first
abbrev pub read_at : Bool → List Point → ℕ → Reading
read_at step [] t = Nothing
read_at step (p ∷ ps) t = if nat_lt t p.t then Nothing else read_from step p ps t

-- the whole number nearest to a fraction, the upper one of two that are equally near
abbrev pub rounded : ℤ → ℕ → ℤ
rounded num den = int_div_euclid ((pos 2 *ℤ num) +ℤ pos den) (pos (2 * den))

-- the value that is read, rounded
abbrev pub value_read : Reading → Option ℤ
value_read (Exact v) = Some v
value_read (Line f) = Some (rounded f.num f.den)
value_read (Flat v) = Some v
value_read Nothing = None

-- the points from one time to another, both included
abbrev pub points_from_to : List Point → ℕ → ℕ → List Point
points_from_to ps from to = filter (λ p. nat_le from p.t && nat_le p.t to) ps
