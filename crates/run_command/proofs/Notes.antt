-- The notes of workers that began, or none.
use Rattle.std.proofs.Common.{◌≡◌, ◌++◌, ℕ, List, Vec, Result, Ok, Err, IfOk, OnErr, OnOk, is_ok, refl, true}
use Rattle.std.specs.Prelude.{◌≢◌, ⊤}
use Rattle.std.proofs.lemmas.Bool.{false≢true}
use Rattle.std.proofs.lemmas.List.Elements.{All-append}
use Rattle.plant_status.specs.declared.status.Status.{Status}
use Rattle.collector_pool.specs.declared.note.Ending.TheVariants.{Halted, WantOfMemory as NoMemory}
use Rattle.std.specs.declared.alloc.Global.{Global}
use Rattle.trend_num.specs.{WantOfMemory}
use Rattle.collector_pool.specs.{WorkerNote, AreNotesOf, stops_with}
use Rattle.collector_pool.specs.declared.work.Work.{Work}
use Rattle.run_command.specs.Refusals.{AdmitsForeign, notes_of}
use Rattle.run_command.specs.{HaveAllEnded}
use Rattle.run_command.specs.Sessions.{AreNotes, AreNotesOfAll, OfAll, OfNone}

pub notes_are : (w : Work) (before now : ℕ) (r : Result (Vec WorkerNote Global) WantOfMemory)
    → IfOk r (λ notes. AreNotesOf (λ group no. ⊤) w notes.items)
    → IfOk r (λ notes. now ≡ stops_with before notes.items) → OnErr r (now ≡ before) → AreNotes w before now (notes_of r)
notes_are w before now (Ok notes) are stops none = OfAll are stops
notes_are w before now (Err why) are stops none = OfNone refl none

-- where the workers began, these are the notes of all of them
pub ran_all : (w : Work) (r : Result (Vec WorkerNote Global) WantOfMemory)
    → IfOk r (λ notes. AreNotesOfAll w notes.items) → is_ok r ≡ true → AreNotesOfAll w (notes_of r)
ran_all w (Ok notes) are worked = are
ran_all w (Err why) are worked = absurd (false≢true worked)

-- what holds unless an answer admits a take or a question of no file holds at Ok
pub at_text : (P : Type 0) {T : Type 0} (r : Result T Status) → ((AdmitsForeign r → ⊥) → P) → OnOk r P
at_text P (Ok x) follows = follows (λ no. no)
at_text P (Err why) follows = tt

-- the workers of two phases
pub ended_both : (front more : List WorkerNote) → HaveAllEnded front → HaveAllEnded more → HaveAllEnded (front ++ more)
ended_both front more first second = record {
  none_halted = All-append (λ n. n.ending ≢ Halted) front more first.none_halted second.none_halted;
  all_found = All-append (λ n. n.ending ≢ NoMemory) front more first.all_found second.all_found;
}
