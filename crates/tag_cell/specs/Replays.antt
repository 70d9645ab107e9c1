-- Tapes whose entries are true: replayed from an opening, or legal for a history.
use Rattle.std.specs.Prelude.{◌≡◌, ℕ, ◌+◌, ◌<◌, ◌≤◌, Bool, List, [], ◌∷◌, ◌++◌, length, map, Option, Some}
use Rattle.trend_num.specs.{Rec, Point, TagQuery, TagDef, most_records}
use Rattle.trend_model.specs.{closed_points, Event, Origin, Raw, in_force}
use Rattle.trend_model.specs.State.{State, Stands, followed}
use Rattle.trend_model.specs.Walk.{held, records}
use Rattle.interp_read.specs.{Reply, Answers}
use Rattle.tag_cell.specs.declared.entry.Entry.{Entry}
use Rattle.tag_cell.specs.declared.entry.Entry.TheVariants.{Take, Ask, Pull, Commit}
use Rattle.tag_cell.specs.declared.history.TagOpening.{TagOpening}
use Rattle.tag_cell.specs.Tapes.{CellWalk, cell_start, after_entry, cell_walked, taken, done, state_after}

-- what a tag shows: its records, and the point that closes its line
pub record Shown : Type 0 where
  pub records : List Rec
  pub held : Option Point

-- ---- an entry fits what the tag shows

-- a take found room for two records more; it states the held point and the number of records after it
pub record IsTake (before s : Shown) (h : Point) (n : ℕ) : Type 0 where
  pub room : length before.records + 2 ≤ most_records
  pub same_held : s.held ≡ Some h
  pub counted : n ≡ length s.records

-- an answer is the answer on the closed content
pub record IsAnswer (step : Bool) (s : Shown) (q : TagQuery) (a : Reply) : Type 0 where
  pub answers : Answers step (closed_points s.records s.held) q a

-- a pull returns the records up to the end of these
pub record IsPull (s : Shown) (first upto : ℕ) : Type 0 where
  pub counted : upto ≡ length s.records
  pub within : first ≤ upto

-- a commit acknowledges more than the last one, no value that was not taken, and at a later moment
pub record IsCommit (o : TagOpening) (w : CellWalk) (moment acked : ℕ) : Type 0 where
  pub more : w.acked < acked
  pub within : acked ≤ o.summary.taken + length w.points
  pub later : w.moment < moment

-- An entry fits what the tag shows, which depends on the values taken so far. A take fits what the tag shows before it
-- and after it.
abbrev pub Fits : (List Point → Shown) → Bool → TagOpening → CellWalk → Entry → Type 0
Fits show step o w (Take collector row p h n) = IsTake (show w.points) (show (w.points ++ p ∷ [])) h n
Fits show step o w (Ask reader row q a) = IsAnswer step (show w.points) q a
Fits show step o w (Pull group first upto) = IsPull (show (done o w)) first upto
Fits show step o w (Commit moment acked) = IsCommit o w moment acked

-- each of these entries fits
abbrev pub FitAll : (List Point → Shown) → Bool → TagOpening → CellWalk → List Entry → Type 0
FitAll show step o w [] = Unit {0}
FitAll show step o w (e ∷ es) = Fits show step o w e × FitAll show step o (after_entry w e) es

-- ---- what a tag shows after values

-- what a state shows
abbrev pub shown_of : State → Shown
shown_of s = record { records = s.records; held = s.summary.held }

-- what is shown after these values, replayed from an opening
abbrev pub replayed : Bool → TagOpening → List Point → Shown
replayed step o ps = shown_of (state_after step o ps)

-- what a history shows
abbrev pub shown_by : Origin → List Event → Shown
shown_by org h = record { records = records org h; held = held org h }

-- what a history followed by these values shows
abbrev pub shown_after : Origin → List Event → List Point → Shown
shown_after org h ps = shown_by org (followed h (map Raw ps))

-- ---- whole tapes

-- the tape replays from its opening; it ends in this state, with so many events acknowledged
pub record IsTapeReplayed (def : TagDef) (o : TagOpening) (tape : List Entry) (s : State) (acked : ℕ) : Type 0 where
  pub tuning : o.summary.tuning ≡ Some def.tuning
  pub entries : FitAll (replayed def.step o) def.step o (cell_start o) tape
  pub stands : s ≡ state_after def.step o (taken tape)
  pub acked_are : acked ≡ (cell_walked (cell_start o) tape).acked

-- the tape is legal for a history of this origin
pub record IsLegal (org : Origin) (h : List Event) (def : TagDef) (o : TagOpening) (tape : List Entry) (s : State) (acked : ℕ)
    : Type 0 where
  pub tuning : def.tuning ≡ in_force org h
  pub entries : FitAll (shown_after org h) org.step o (cell_start o) tape
  pub stands : Stands org (followed h (map Raw (taken tape))) s
  pub acked_are : acked ≡ (cell_walked (cell_start o) tape).acked
