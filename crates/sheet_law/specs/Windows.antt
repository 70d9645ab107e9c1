-- The windows of a grid, and which of them the records of its inputs complete.
use Rattle.std.specs.Prelude.{ℕ, ◌+◌, ◌-◌, ◌*◌, ◌/◌, max, min, Bool, not, ◌&&◌, if◌then◌else◌, List, [], ◌∷◌, map, nat_le}
use Rattle.std.specs.List.{list_all, list_any}
use Rattle.trend_num.specs.{Rec}
use Rattle.trend_model.specs.{is_late_record}
use Rattle.sheet_law.specs.declared.grid.Grid.{Grid}

-- when the window k begins, and when it ends
abbrev pub window_from : Grid → ℕ → ℕ
window_from w k = w.start + k * w.period

abbrev pub window_to : Grid → ℕ → ℕ
window_to w k = w.start + (k + 1) * w.period

-- whether a Kept record is at the time t or after it
abbrev pub reaches : ℕ → List Rec → Bool
reaches t rs = list_any (λ r. not (is_late_record r.kind) && nat_le t r.point.t) rs

-- whether the window k is complete: the Kept records of every input reach its end
abbrev pub is_complete : Grid → List (List Rec) → ℕ → Bool
is_complete w rss k = list_all (reaches (window_to w k)) rss

-- one more than the greatest time of the Kept records, or 0 if there is none
abbrev pub kept_end : List Rec → ℕ
kept_end [] = 0
kept_end (r ∷ rs) = if is_late_record r.kind then kept_end rs else max (r.point.t + 1) (kept_end rs)

-- how many windows end before the time t
abbrev pub windows_before : Grid → ℕ → ℕ
windows_before w t = (t - 1 - w.start) / w.period

-- the least of these numbers, or 0 if there is none
abbrev pub least : List ℕ → ℕ
least [] = 0
least (n ∷ []) = n
least (n ∷ m ∷ ns) = min n (least (m ∷ ns))

-- how many windows are complete
abbrev pub complete_windows : Grid → List (List Rec) → ℕ
complete_windows w rss = least (map (λ rs. windows_before w (kept_end rs)) rss)
