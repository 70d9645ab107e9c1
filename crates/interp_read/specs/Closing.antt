-- A content that is closed by a held point.
use Rattle.std.specs.Prelude.{◌<◌, List, Option, All}
use Rattle.trend_num.specs.{Rec, Point}
use Rattle.trend_model.specs.{closed_by, points_of}

-- the points of a content that is closed by a held point: the held point is one of them if the content has none at its
-- time
abbrev pub points_closed_by : Option Point → List Rec → List Point
points_closed_by held l = points_of (closed_by held l)

-- q is after all points
abbrev pub IsAfterAll : List Point → Point → Type 0
IsAfterAll points q = All (λ p. p.t < q.t) points
