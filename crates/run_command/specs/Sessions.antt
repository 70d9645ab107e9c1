-- The work of a session's workers, and their notes.
use Rattle.std.specs.Prelude.{◌≡◌, ℕ, List, [], map, ⊤}
use Rattle.calc_refresh.specs.{lists_of}
use Rattle.collector_pool.specs.{WorkerNote, Refresh, AreNotesOf, stops_with}
use Rattle.collector_pool.specs.declared.work.Work.{Work}
use Rattle.tag_base.specs.{Refresher}
use Rattle.value_rows.specs.{Query, RawRow}

-- the group of a refresher and its turns, in a session and in a plan
abbrev pub turn_of : Refresh → ℕ × ℕ
turn_of r = (r.group, r.turns)

abbrev pub planned_turn : Refresher → ℕ × ℕ
planned_turn r = (r.group, r.turns)

-- The collectors have these rows, the readers these queries, and the refreshers these turns. In earlier phases each
-- collector took so many of its rows.
pub record IsPlannedWork (earlier : ℕ) (rows : List (List RawRow)) (queries : List (List Query)) (refreshers : List Refresher)
    (w : Work) : Type 0 where
  pub earlier_is : w.earlier ≡ earlier
  pub collectors : lists_of w.collectors.items ≡ rows
  pub readers : lists_of w.readers.items ≡ queries
  pub turns : map turn_of w.refreshers.items ≡ map planned_turn refreshers

-- these are the notes of all workers
abbrev pub AreNotesOfAll : Work → List WorkerNote → Type 0
AreNotesOfAll w notes = AreNotesOf (λ group no. ⊤) w notes

-- these are the notes of all workers, and the passes counted as many more stops as workers were stopped; or no worker
-- began, and no stop was counted
pub data AreNotes (w : Work) (before now : ℕ) (notes : List WorkerNote) : Type 0 where
  OfAll : AreNotesOfAll w notes → now ≡ stops_with before notes → AreNotes w before now notes
  OfNone : notes ≡ [] → now ≡ before → AreNotes w before now notes
