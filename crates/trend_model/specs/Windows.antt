-- What a window of a list of points measures. The points rise in time.
use Rattle.std.specs.Prelude.{if◌then◌else◌, ℕ, ◌-◌, ◌*◌, ℤ, pos, ◌+ℤ◌, ◌*ℤ◌, Bool, true, false, ◌&&◌, List, [], ◌∷◌, ◌++◌, length, Option, None, Some, int_le, nat_le, nat_lt}
use Rattle.std.specs.List.{filter}
use Rattle.trend_num.specs.{Point, Measure}
use Rattle.trend_num.specs.declared.measure.Measure.TheVariants.{Area, Avg, Total, Low, High, Count, First, Last}
use Rattle.trend_model.specs.Reads.{read_at, value_read, rounded}

-- the time of the last of p and the points after it
abbrev pub last_time_from : Point → List Point → ℕ
last_time_from p [] = p.t
last_time_from p (q ∷ ps) = last_time_from q ps

-- whether the window is covered: it does not start before the first point, and does not end after the last
abbrev pub is_covered : List Point → ℕ → ℕ → Bool
is_covered [] from to = false
is_covered (p ∷ ps) from to = nat_le p.t from && nat_le to (last_time_from p ps)

-- the point at a time with the value that was read there, if there is one
abbrev pub end_at : ℕ → Option ℤ → List Point
end_at t None = []
end_at t (Some v) = record { t = t; v = v } ∷ []

-- the shape of a window: its start as it reads, the points strictly inside, and its end as it reads
abbrev pub shape : Bool → List Point → ℕ → ℕ → List Point
shape step ps from to =
    end_at from (value_read (read_at step ps from)) ++ filter (λ p. nat_lt from p.t && nat_lt p.t to) ps
    ++ end_at to (value_read (read_at step ps to))

-- twice the area between two neighbours: a line goes from the one value to the other, a stair keeps the first
abbrev pub piece : Bool → Point → Point → ℤ
piece false p q = pos (q.t - p.t) *ℤ (p.v +ℤ q.v)
piece true p q = pos (q.t - p.t) *ℤ (p.v +ℤ p.v)

-- twice the area under points, the sum over neighbours
abbrev pub area : Bool → List Point → ℤ
area step [] = pos 0
area step (p ∷ []) = pos 0
area step (p ∷ q ∷ ps) = piece step p q +ℤ area step (q ∷ ps)

-- the lesser and the greater of two numbers
abbrev pub lesser : ℤ → ℤ → ℤ
lesser m n = if int_le m n then m else n

abbrev pub greater : ℤ → ℤ → ℤ
greater m n = if int_le m n then n else m

-- the least and the greatest value of points, of which p is the first
abbrev pub least_from : Point → List Point → ℤ
least_from p [] = p.v
least_from p (q ∷ ps) = lesser p.v (least_from q ps)

abbrev pub greatest_from : Point → List Point → ℤ
greatest_from p [] = p.v
greatest_from p (q ∷ ps) = greater p.v (greatest_from q ps)

-- the last of p and the points after it
abbrev pub last_from : Point → List Point → Point
last_from p [] = p
last_from p (q ∷ ps) = last_from q ps

-- all points but the last
abbrev pub but_last : List Point → List Point
but_last [] = []
but_last (p ∷ []) = []
but_last (p ∷ q ∷ ps) = p ∷ but_last (q ∷ ps)

-- the points whose values a window takes: a stair does not take the value at the window's end
abbrev pub taken_values : Bool → List Point → List Point
taken_values false ps = ps
taken_values true ps = but_last ps

-- a measure of points, of which p is the first, if there are any
abbrev pub of_first : (Point → List Point → ℤ) → List Point → Option ℤ
of_first f [] = None
of_first f (p ∷ ps) = Some (f p ps)

-- a measure, from the shape s of a window and the points ps
abbrev pub measured : Bool → Measure → List Point → List Point → ℕ → ℕ → Option ℤ
measured step Area ps s from to = Some (area step s)
measured step Avg ps s from to = Some (rounded (area step s) (2 * (to - from)))
measured step Total ps s from to = Some (rounded (area step s) 2000)
measured step Low ps s from to = of_first least_from (taken_values step s)
measured step High ps s from to = of_first greatest_from (taken_values step s)
measured step Count ps s from to = Some (pos (length (filter (λ p. nat_le from p.t && nat_lt p.t to) ps)))
measured step First ps s from to = of_first (λ p more. p.v) s
measured step Last ps s from to = of_first (λ p more. (last_from p more).v) s

-- the value of a measure in a window, if the window is covered
abbrev pub window_value : Bool → Measure → List Point → ℕ → ℕ → Option ℤ
window_value step m ps from to =
    if is_covered ps from to then measured step m ps (shape step ps from to) from to
    else None
