-- The content of a list of records as a list: one record for each time that occurs, in order of time. The kind of a
-- record says whether a Late record has that time.
use Rattle.std.specs.Prelude.{if◌then◌else◌, ◌≡◌, ℕ, ◌<◌, ◌&&◌, not, List, [], ◌∷◌, Option, None, Some, is_some, nat_lt, fold, map, All, AllPairs, Contains, ◌≤◌}
use Rattle.trend_num.specs.{Point, Rec}
use Rattle.trend_model.specs.Content.{is_late_record, content_at, late_at, closed_at}
use Rattle.trend_model.specs.Walk.{kept}

-- each time occurs once, in rising order
abbrev pub IsRising : List Rec → Type 0
IsRising l = AllPairs (λ x y. x.point.t < y.point.t) l

-- l is the content of the records rs
pub record IsContentOf (rs l : List Rec) : Type 0 where
  pub rising : IsRising l
  -- at each time it has the value that the records read as, and a Late record exactly where they have one
  pub content : (t : ℕ) → content_at l t ≡ content_at rs t
  pub late : (t : ℕ) → late_at l t ≡ late_at rs t

-- l is the content of the records rs, closed by the point q
pub record IsClosedContentOf (rs : List Rec) (q : Option Point) (l : List Rec) : Type 0 where
  pub rising : IsRising l
  pub content : (t : ℕ) → content_at l t ≡ closed_at rs q t
  pub late : (t : ℕ) → late_at l t ≡ late_at rs t

-- the model of a content: its records, how many more there is room for, and how many each page has, in order
pub record ContentState : Type 0 where
  pub records : List Rec
  pub spare : ℕ
  pub pages : List ℕ

-- which of two records at one time remains: the newer one, but a Kept one does not replace a Late one
abbrev pub over : Rec → Rec → Rec
over r x = if is_late_record x.kind && not (is_late_record r.kind) then x else r

-- a content after one more record
abbrev pub placed : Rec → List Rec → List Rec
placed r [] = r ∷ []
placed r (x ∷ xs) =
    if nat_lt r.point.t x.point.t then r ∷ x ∷ xs
    else if nat_lt x.point.t r.point.t then x ∷ placed r xs
    else over r x ∷ xs

-- the content of these records
abbrev pub listed : List Rec → List Rec
listed rs = fold (λ l r. placed r l) [] rs

-- a content closed by a point: the point is added if there is nothing at its time
abbrev pub closed_by : Option Point → List Rec → List Rec
closed_by None l = l
closed_by (Some q) l = if is_some (content_at l q.t) then l else placed (kept q) l

-- no record is after q
abbrev pub IsNotBefore : List Rec → Point → Type 0
IsNotBefore l q = All (λ r. r.point.t ≤ q.t) l

-- the points of a content
abbrev pub points_of : List Rec → List Point
points_of l = map (λ r. r.point) l

-- p is the last point of l that is not after t; or there is no such point
abbrev pub IsFloor : ℕ → List Rec → Option Point → Type 0
IsFloor t l None = All (λ r. t < r.point.t) l
IsFloor t l (Some p) = Contains (points_of l) p × (p.t ≤ t) × All (λ r. r.point.t ≤ t → r.point.t ≤ p.t) l

-- p is the first point of l that is not before t; or there is no such point
abbrev pub IsCeil : ℕ → List Rec → Option Point → Type 0
IsCeil t l None = All (λ r. r.point.t < t) l
IsCeil t l (Some p) = Contains (points_of l) p × (t ≤ p.t) × All (λ r. t ≤ r.point.t → p.t ≤ r.point.t) l

-- the points of the closed content of records, in order of time
abbrev pub closed_points : List Rec → Option Point → List Point
closed_points rs q = points_of (closed_by q (listed rs))
