-- Which windows a record touches when it comes, and which windows the records of a list touch in turn.
use Rattle.std.specs.Prelude.{ℕ, Bool, false, not, ◌&&◌, ◌||◌, if◌then◌else◌, List, [], ◌∷◌, ◌++◌, map, filter, nat_le, nat_lt}
use Rattle.std.specs.List.{list_all}
use Rattle.trend_num.specs.{Rec}
use Rattle.trend_model.specs.{is_late_record, listed}

abbrev pub times_of : List Rec → List ℕ
times_of l = map (λ r. r.point.t) l

-- the first and the last of these numbers, or the default if there is none
abbrev pub first_or : ℕ → List ℕ → ℕ
first_or d [] = d
first_or d (n ∷ ns) = n

abbrev pub last_or : ℕ → List ℕ → ℕ
last_or d [] = d
last_or d (n ∷ ns) = last_or n ns

-- the stretch of the time t in a content: from the last point before it to the first point after it. A point at t does
-- not count. If there is no point on one side, the stretch ends there at t
abbrev pub stretch_from : List Rec → ℕ → ℕ
stretch_from l t = last_or t (filter (λ n. nat_lt n t) (times_of l))

abbrev pub stretch_to : List Rec → ℕ → ℕ
stretch_to l t = first_or t (filter (λ n. nat_lt t n) (times_of l))

-- whether a window meets the closed stretch of a time
abbrev pub meets : List Rec → ℕ → ℕ → ℕ → Bool
meets l t from to = nat_le (stretch_from l t) to && nat_le from (stretch_to l t)

-- whether a record is after every Kept record of these
abbrev pub is_newest : Rec → List Rec → Bool
is_newest r rs = list_all (λ x. is_late_record x.kind || nat_lt x.point.t r.point.t) rs

-- whether a record that comes after these touches a window. A Late record touches the windows that its stretch in their
-- content meets. A Kept record touches none if it is the newest, and otherwise every window
abbrev pub touches : List Rec → Rec → ℕ → ℕ → Bool
touches rs r from to =
    if is_late_record r.kind then meets (listed rs) r.point.t from to else not (is_newest r rs)

-- whether one of the records that come after these touches a window. Each is tested against these and the new ones
-- before it
abbrev pub is_touched : List Rec → List Rec → ℕ → ℕ → Bool
is_touched rs [] from to = false
is_touched rs (r ∷ more) from to = touches rs r from to || is_touched (rs ++ r ∷ []) more from to

-- whether a window is touched in one of the inputs, which get these records. If there are fewer lists than inputs, the
-- other inputs get none.
abbrev pub any_touched : List (List Rec) → List (List Rec) → ℕ → ℕ → Bool
any_touched [] mores from to = false
any_touched (rs ∷ rss) [] from to = false
any_touched (rs ∷ rss) (more ∷ mores) from to = is_touched rs more from to || any_touched rss mores from to

-- the records of the inputs, each with those that it gets
abbrev pub longer : List (List Rec) → List (List Rec) → List (List Rec)
longer [] mores = []
longer (rs ∷ rss) [] = rs ∷ rss
longer (rs ∷ rss) (more ∷ mores) = (rs ++ more) ∷ longer rss mores
