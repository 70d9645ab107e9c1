-- The answer of a session, compared with what it came to.
use Rattle.std.proofs.Common.{◌≡◌, ◌<◌, ℕ, List, Option, None, Some, Result, Ok, Err, OnOk, IfErr, IfOk, String, string_bytes, sym, subst}
use Rattle.std.specs.Prelude.{◌^◌, IfSome}
use Rattle.std.specs.List.{AllZip}
use Rattle.std.specs.declared.alloc.Global.{Global}
use Rattle.disk_model.specs.{Device}
use Rattle.plant_status.specs.declared.status.Status.{Status}
use Rattle.tag_base.specs.{Base}
use Rattle.calc_refresh.specs.{lists_of}
use Rattle.tag_cell.specs.{ToldCell as Cell}
use Rattle.group_book.specs.{ToldBook as Book}
use Rattle.session_audit.specs.Pulls.{ArePulled}
use Rattle.plant_store.specs.Groups.{DeviceTraces}
use Rattle.plant_store.specs.{CountsClosed}
use Rattle.session_report.specs.{Session}
use Rattle.run_command.specs.{Given, EndedPhase, HaveAllEnded, AreStepsMade}
use Rattle.run_command.specs.Refusals.{AdmitsForeign, IsOfOpening}
use Rattle.run_command.specs.Runs.{IsContinued, IsContinuedGroup, IsDone, IsSessionHeld, AreUnitsOpen, IsOver, IsRefusedSo, IsReported, IsUndone, OfNone}
use Rattle.run_command.proofs.Checks.{foreign_checked, memory_checked, opening_checked}

-- what follows of what is there
pub some_weaker : {X : Type 0} {P Q : X → Type 0} (o : Option X) → ((x : X) → P x → Q x) → IfSome o P → IfSome o Q
some_weaker None follows p = tt
some_weaker (Some x) follows p = follows x p

module _ (base : Base) (g : Given) (s : Session) where
  -- a refused opening is reported as one
  pub opening_told : (came : Result (Unit {0}) Status) (told : Result (String Global) Status) → IsReported base g s came told
      → IsOfOpening came → IsOfOpening told
  opening_told (Ok x) told is of = absurd of
  opening_told (Err why) (Ok text) is of = absurd (is.refused)
  opening_told (Err why) (Err now) is of = opening_checked base s why now is.refused of

  -- so is a refusal after which a tape may have an entry of no file
  pub foreign_told : (came : Result (Unit {0}) Status) (told : Result (String Global) Status) → IsReported base g s came told
      → AdmitsForeign came → AdmitsForeign told
  foreign_told (Ok x) told is of = absurd of
  foreign_told (Err why) (Ok text) is of = absurd (is.refused)
  foreign_told (Err why) (Err now) is of = foreign_checked base s why now is.refused of

  module _ {D : Type 0} (cells : List (Cell D)) (books : List (Book D)) where
    -- a session that answers a text is done
    pub done_told : (came : Result (Unit {0}) Status) (told : Result (String Global) Status) → IsReported base g s came told
        → OnOk came (HaveAllEnded s.workers.items) → OnOk came (AreStepsMade g cells books)
        → OnOk came (ArePulled (lists_of g.inputs.items) cells books) → IfOk told (λ text. IsDone base g cells books s (string_bytes text))
    done_told (Ok x) (Ok text) is ended made pulled = record { ended = ended; made = made; pulled = pulled; same = is.text }
    done_told (Ok x) (Err why) is ended made pulled = tt
    done_told (Err why) (Ok text) is ended made pulled = absurd (is.refused)
    done_told (Err why) (Err e) is ended made pulled = tt

    module _ (opened : List (Cell D)) (opened_books : List (Book D)) where
      -- and a cause of one that is not
      pub undone_told : (came : Result (Unit {0}) Status) (told : Result (String Global) Status) → IsReported base g s came told
          → IfErr came (IsUndone g opened opened_books cells books s.workers.items)
          → IfErr told (IsRefusedSo base g opened opened_books cells books s)
      undone_told (Ok x) (Ok text) is undone = tt
      undone_told (Ok x) (Err why) is undone =
          record { came = why; undone = OfNone is.want; checked = memory_checked base s why is.want }
      undone_told (Err why) (Ok text) is undone = tt
      undone_told (Err why) (Err now) is undone = record { came = why; undone = undone; checked = is.refused }

-- what holds of a phase that is done holds of a session that answers a text
pub ran_told : (P : Type 0) (base : Base) (g : Given) (s : Session) (came : Result (Unit {0}) Status) (told : Result (String Global) Status)
    → IsReported base g s came told → OnOk came P → OnOk told P
ran_told P base g s (Ok x) (Ok text) is p = p
ran_told P base g s (Ok x) (Err why) is p = tt
ran_told P base g s (Err why) (Ok text) is p = absurd (is.refused)
ran_told P base g s (Err why) (Err e) is p = tt

-- where an opening counted no fault, those counted since are all that were counted since before it
pub counted_since : {D : Type 0} (device : D → Device) (cells : List (Cell D)) (books : List (Book D)) (before opened now : ℕ)
    → (before < 2 ^ 64 → opened ≡ before) → (opened < 2 ^ 64 → CountsClosed device cells books opened now) → before < 2 ^ 64
    → CountsClosed device cells books before now
counted_since device cells books before opened now same counts few =
    subst (λ n. CountsClosed device cells books n now) (same few) (counts (subst (λ n. n < 2 ^ 64) (sym (same few)) few))

-- the answer of a session that ended like this, whose devices were opened and are given back
abbrev pub held_told : {D : Type 0} (device : D → Device) (base : Base) (g : Given) (old new : DeviceTraces)
    (before opening now : ℕ) (opened : List (Cell D)) (opened_books : List (Book D)) (e : EndedPhase D) (told : Result (String Global) Status)
    (s : Session) → AreUnitsOpen device base old opened opened_books
    → IsOver device base old new e.cells.items e.books.items s → (before < 2 ^ 64 → opening ≡ before)
    → (opening < 2 ^ 64 → CountsClosed device e.cells.items e.books.items opening now)
    → ((IsOfOpening e.answer → ⊥) → AllZip IsContinued opened e.cells.items)
    → ((IsOfOpening e.answer → ⊥) → AllZip IsContinuedGroup opened_books e.books.items)
    → OnOk e.answer (HaveAllEnded s.workers.items) → OnOk e.answer (AreStepsMade g e.cells.items e.books.items)
    → OnOk e.answer (ArePulled (lists_of g.inputs.items) e.cells.items e.books.items) → IsReported base g s e.answer told
    → IsSessionHeld device base g old new before now told s
held_told device base g old new before opening now opened opened_books e told s was over same counts tags groups ended made pulled is =
    record {
      opened = opened;
      opened_books = opened_books;
      cells = e.cells.items;
      books = e.books.items;
      opening = was;
      over = over;
      counts = counted_since device e.cells.items e.books.items before opening now same counts;
      same_tags = λ none. tags (λ of. none (opening_told base g s e.answer told is of));
      same_groups = λ none. groups (λ of. none (opening_told base g s e.answer told is of));
      done = done_told base g s e.cells.items e.books.items e.answer told is ended made pulled;
    }
