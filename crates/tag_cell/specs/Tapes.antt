-- What a tape says: which values were taken, and which are acknowledged.
use Rattle.std.specs.Prelude.{ℕ, ◌-◌, Bool, List, [], ◌∷◌, ◌++◌, take, map, nat_le, if◌then◌else◌}
use Rattle.trend_num.specs.{Point}
use Rattle.trend_model.specs.{Raw}
use Rattle.trend_model.specs.State.{State, replay}
use Rattle.tag_cell.specs.declared.entry.Entry.{Entry}
use Rattle.tag_cell.specs.declared.entry.Entry.TheVariants.{Take, Ask, Pull, Commit}
use Rattle.tag_cell.specs.declared.history.TagOpening.{TagOpening}

-- a place on a tape: the values that were taken so far, and what the last commit acknowledged, at which moment
pub record CellWalk : Type 0 where
  pub points : List Point
  pub acked : ℕ
  pub moment : ℕ

-- the place at the opening
abbrev pub cell_start : TagOpening → CellWalk
cell_start o = record { points = []; acked = o.summary.taken; moment = o.moment }

-- the place after one more entry
abbrev pub after_entry : CellWalk → Entry → CellWalk
after_entry w (Take collector row p held records) = record w { points = w.points ++ p ∷ [] }
after_entry w (Ask reader row query reply) = w
after_entry w (Pull group from upto) = w
after_entry w (Commit moment acked) = record w { acked = acked; moment = moment }

-- the place after these entries
abbrev pub cell_walked : CellWalk → List Entry → CellWalk
cell_walked w [] = w
cell_walked w (e ∷ es) = cell_walked (after_entry w e) es

-- the values that were taken
abbrev pub taken : List Entry → List Point
taken [] = []
taken (Take collector row p held records ∷ es) = p ∷ taken es
taken (Ask reader row query reply ∷ es) = taken es
taken (Pull group from upto ∷ es) = taken es
taken (Commit moment acked ∷ es) = taken es

-- how many records there are after the last take, or n if there is none
abbrev pub last_records : ℕ → List Entry → ℕ
last_records n [] = n
last_records n (Take collector row p held records ∷ es) = last_records records es
last_records n (Ask reader row query reply ∷ es) = last_records n es
last_records n (Pull group from upto ∷ es) = last_records n es
last_records n (Commit moment acked ∷ es) = last_records n es

-- how many events the last commit at a moment or before it acknowledges, or n if there is none
abbrev pub acked_at : ℕ → ℕ → List Entry → ℕ
acked_at t n [] = n
acked_at t n (Take collector row p held records ∷ es) = acked_at t n es
acked_at t n (Ask reader row query reply ∷ es) = acked_at t n es
acked_at t n (Pull group from upto ∷ es) = acked_at t n es
acked_at t n (Commit moment acked ∷ es) = acked_at t (if nat_le moment t then acked else n) es

-- the values taken so far that are acknowledged
abbrev pub done : TagOpening → CellWalk → List Point
done o w = take (w.acked - o.summary.taken) w.points

-- the state of an opening
abbrev pub opened : TagOpening → State
opened o = record { records = o.recs.items; summary = o.summary }

-- the state after these values
abbrev pub state_after : Bool → TagOpening → List Point → State
state_after step o ps = replay step (opened o) (map Raw ps)
