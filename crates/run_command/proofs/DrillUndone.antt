-- What the phases of a drill come to, and what the drill answers.
use Rattle.std.proofs.Common.{◌≡◌, ◌⊎◌, inl, inr, ◌≤◌, ℕ, List, false, Result, Ok, Err, OnOk, IfErr, String, Global, arith, ap, length, refl, sym, subst}
use Rattle.std.specs.Result.{is_err}
use Rattle.plant_status.specs.declared.status.Status.{Status}
use Rattle.disk_model.specs.{Device}
use Rattle.plant_status.specs.declared.unit.Unit.{Unit as PlantUnit}
use Rattle.plant_status.specs.declared.status.Status.TheVariants.{DeviceFault}
use Rattle.tag_base.specs.{Base}
use Rattle.tag_cell.specs.{ToldCell as Cell}
use Rattle.group_book.specs.{ToldBook as Book}
use Rattle.plant_store.specs.Groups.{DeviceTraces}
use Rattle.collector_pool.specs.{WorkerNote, worker_count}
use Rattle.collector_pool.specs.declared.work.Work.{Work}
use Rattle.session_audit.specs.{HaveFirstPulls}
use Rattle.session_report.specs.{Session}
use Rattle.run_command.specs.{Given, IsChecked, AreBegun, IsRunInPhases, drill_answer, drill_status, AreAllOrNone, AreNotesOfAllBoth, AreNotesOfBoth, IsUndoneOfBoth, OfReport}
use Rattle.run_command.specs.Refusals.{AdmitsForeign, IsOpening, MayBeForeign}
use Rattle.run_command.specs.Runs.{IsSessionHeld, IsReported}
use Rattle.run_command.specs.Sessions.{AreNotes, OfAll, OfNone}
use Rattle.run_command.proofs.Checks.{memory_checked}

-- what is so where a call succeeds
pub where_ok : {T E P : Type 0} (r : Result T E) → is_err r ≡ false → OnOk r P → P
where_ok (Ok x) fine p = p
where_ok (Err e) fine p = absurd (cc fine)

-- no more workers have notes than there are
pub few_notes : (w : Work) (before now : ℕ) (notes : List WorkerNote) → AreNotes w before now notes
    → length notes ≤ worker_count w
few_notes w before now notes (OfAll are stops) = omega (arith, are.count)
few_notes w before now notes (OfNone none stops) = omega (arith, ap length none)

-- the notes of a phase are those of all its workers, or there are none
pub all_or_none : (w : Work) (before now : ℕ) (notes : List WorkerNote) → AreNotes w before now notes → AreAllOrNone w notes
all_or_none w before now notes (OfAll are stops) = inl are
all_or_none w before now notes (OfNone none stops) = inr none

-- a drill reports each cause but that of a fault as it is
pub kept_or_fault : (why : Status) → (drill_status why ≡ why) ⊎ ((unit : PlantUnit) × (why ≡ DeviceFault unit))
kept_or_fault (DeviceFault unit) = inr (unit, refl)
kept_or_fault other = inl refl

-- a refused opening is reported as one
opening_kept : (why : Status) → IsOpening why → IsOpening (drill_status why)
opening_kept why is = elim (kept_or_fault why) [
  | inl same ↦ subst IsOpening (sym same) is
  | inr fault ↦ absurd (subst IsOpening fault.1 is)
]

-- and nothing else is
pub opening_back : (why : Status) → IsOpening (drill_status why) → IsOpening why
opening_back why is = elim (kept_or_fault why) [
  | inl same ↦ subst IsOpening same is
  | inr fault ↦ absurd (subst (λ w. IsOpening (drill_status w)) fault.1 is)
]

-- a refusal after which a tape may have a take of no file is reported as one
foreign_kept : (why : Status) → MayBeForeign why → MayBeForeign (drill_status why)
foreign_kept why is = elim (kept_or_fault why) [
  | inl same ↦ subst MayBeForeign (sym same) is
  | inr fault ↦ absurd (subst MayBeForeign fault.1 is)
]

-- why the phases are not done, or that no memory was found for the report; and what is reported of it
pub record IsRefusedInPhases {D : Type 0} (base : Base) (first second : Given) (s : Session) (opened : List (Cell D))
    (opened_books : List (Book D)) (cells : List (Cell D)) (books : List (Book D)) (why : Status) : Type 0 where
  pub came : Status
  pub undone : IsUndoneOfBoth first second opened opened_books cells books s.workers.items came
  pub checked : IsChecked base s came why

pub both_told : {D : Type 0} (base : Base) (first second : Given) (s : Session) (opened : List (Cell D)) (opened_books : List (Book D))
    (cells : List (Cell D)) (books : List (Book D)) (came : Result (Unit {0}) Status)
    (told : Result (String Global) Status) → IsReported base second s came told
    → IfErr came (IsUndoneOfBoth first second opened opened_books cells books s.workers.items)
    → IfErr told (IsRefusedInPhases base first second s opened opened_books cells books)
both_told base first second s opened opened_books cells books (Ok x) (Ok text) is undone = tt
both_told base first second s opened opened_books cells books (Ok x) (Err why) is undone =
    record { came = why; undone = OfReport is.want; checked = memory_checked base s why is.want }
both_told base first second s opened opened_books cells books (Err why) (Ok text) is undone = tt
both_told base first second s opened opened_books cells books (Err why) (Err now) is undone =
    record { came = why; undone = undone; checked = is.refused }

-- what a drill comes to that was held so
pub phases_told : {D : Type 0} (device : D → Device) (base : Base) (first second : Given) (old new : DeviceTraces)
    (before now stops_before stops_now : ℕ) (told : Result (String Global) Status) (s : Session)
    → (held : IsSessionHeld device base second old new before now told s)
    → AreNotesOfBoth first.work second.work stops_before stops_now s.workers.items
    → OnOk told (AreNotesOfAllBoth first.work second.work s.workers.items) → OnOk told (HaveFirstPulls first.rooms.items held.cells)
    → ((AdmitsForeign told → ⊥) → AreBegun first held.cells held.books ⊎ AreBegun second held.cells held.books)
    → IfErr told (IsRefusedInPhases base first second s held.opened held.opened_books held.cells held.books)
    → IsRunInPhases device base first second old new before now stops_before stops_now (drill_answer told) s
phases_told device base first second old new before now stops_before stops_now (Ok text) s held notes ran apart begun undone =
    record { held = held; notes = notes; ran = ran; apart = apart; begun = begun; undone = tt }
phases_told device base first second old new before now stops_before stops_now (Err why) s held notes ran apart begun undone = record {
  held = record {
    opened = held.opened;
    opened_books = held.opened_books;
    cells = held.cells;
    books = held.books;
    opening = held.opening;
    over = held.over;
    counts = held.counts;
    same_tags = λ none. held.same_tags (λ of. none (opening_kept why of));
    same_groups = λ none. held.same_groups (λ of. none (opening_kept why of));
    done = tt;
  };
  notes = notes;
  ran = tt;
  apart = tt;
  begun = λ none. begun (λ of. none (foreign_kept why of));
  undone = record { came = undone.came; undone = undone.undone; cause = why; checked = undone.checked; told = refl };
}
