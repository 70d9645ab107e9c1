-- A fault of a device that a session reports is one that the store counts.
use Rattle.std.proofs.Common.{◌≡◌, ◌+◌, ◌-◌, ◌<◌, ℕ, List, [], ◌∷◌, All, Some, Result, Ok, Err, String, arith, subst, min, length, ◌∙◌}
use Rattle.std.specs.Prelude.{◌^◌, IfErr, slice_get, true}
use Rattle.std.specs.declared.alloc.Global.{Global}
use Rattle.tag_cell.specs.{ToldCell as Cell, TagHistory}
use Rattle.plant_status.specs.declared.status.Status.{Status}
use Rattle.plant_status.specs.declared.status.Status.TheVariants.{DeviceFault}
use Rattle.disk_model.specs.{Device}
use Rattle.plant_status.specs.declared.unit.Unit.{Unit as PlantUnit}
use Rattle.session_audit.proofs.Walking.{at_place}
use Rattle.group_book.specs.{ToldBook as Book, SaveNo}
use Rattle.group_book.specs.declared.refusal.RefreshNo.TheVariants as refresh
use Rattle.group_book.specs.declared.refusal.SaveNo.TheVariants as save
use Rattle.trend_num.specs.{Rec, TagDef}
use Rattle.session_audit.specs.{durable_lists, IsBookRefusal, IsSaveCause, OfRefresh, OfSave, save_status, IsCommittedCell, IsSo, OfBroken, OfFault, OfLimit, OfRoom}
use Rattle.plant_store.specs.CellClosings.{HasRisen, AreHistoriesOf}
use Rattle.plant_store.specs.Groups.{DeviceTraces}
use Rattle.plant_store.specs.{CountsClosed, AreCellsOpened}
use Rattle.session_report.specs.{Session}
use Rattle.tag_base.specs.{Base}
use Rattle.run_command.specs.{Given, AreStepsMade, IsFaultCounted}
use Rattle.run_command.specs.Refusals.{IsMakingRefusal, IsRefused, OfAsk, OfCommit, OfFinding, OfGroup, OfMaking, OfMemory, OfPull, OfRefresh as OfRefreshing, OfRest, OfRowAsk, OfStop, OfTag, OfTake, OfTaking, OfTurns, OfWant}
use Rattle.run_command.specs.Runs.{AreUnitsOpen, IsContinued, IsContinuedGroup, IsOver, IsUndone, OfNone, OfSettling}
use Rattle.run_command.proofs.Zipped.{zip_at, zip_length}
use Rattle.std.specs.List.{AllZip}
use Rattle.std.proofs.lemmas.List.Elements.{All-cons, All-head, All-tail}
use Rattle.plant_status.proofs.Elements.{element}
use Rattle.session_audit.specs.CellRefusals as no_memory
use Rattle.collector_pool.specs.{WorkerNote}

-- what is counted once more is not zero
some_count : (n m : ℕ) → m ≡ min (n + 1) (2 ^ 64 - 1) → 0 < m
some_count n m same = omega (arith, same)

module _ {D : Type 0} (device : D → Device) (base : Base) (old new : DeviceTraces) (before now : ℕ)
    (cells : List (Cell D)) (books : List (Book D)) (s : Session) (is : IsOver device base old new cells books s)
    (counts : CountsClosed device cells books before now) where
  -- a cell whose journal has failed
  of_cell : (tag : ℕ) → IsSo cells tag (λ c. c.journal.failed ≡ true) → HasRisen before now
  of_cell tag so = at_place (λ (c : Cell D). c.journal.failed ≡ true → HasRisen before now) cells tag so.cell counts.of_cells so.there so.so

  -- a book whose device has failed
  of_book : (group : ℕ) (b : Book D) → slice_get books group ≡ Some b → b.failed ≡ true → HasRisen before now
  of_book group b there failed =
      at_place (λ (b : Book D). b.failed ≡ true → HasRisen before now) books group b
      (λ i d below down. counts.of_books i d below (some_count _ _ ((is.groups.each i d (element s.groups.items i (omega (arith, is.groups.as_many, below))) below).rose down)))
      there failed

  of_save : (group : ℕ) (b : Book D) (unit : PlantUnit) (why : SaveNo) → slice_get books group ≡ Some b → IsSaveCause b why
      → DeviceFault unit ≡ save_status group why → HasRisen before now
  of_save group b unit save.Broken there cause same = of_book group b there cause
  of_save group b unit save.DeviceFault there cause same = of_book group b there cause
  of_save group b unit save.WantOfMemory there cause same = absurd (cc same)

  of_refresh : (group : ℕ) (b : Book D) (durables : List (List Rec)) (tags : List ℕ) (unit : PlantUnit) → slice_get books group ≡ Some b
      → IsBookRefusal durables tags group b (DeviceFault unit) → HasRisen before now
  of_refresh group b durables tags unit there (OfRefresh (refresh.Ahead input version records) cause same) = absurd (cc same)
  of_refresh group b durables tags unit there (OfRefresh (refresh.CellLimit n) cause same) = absurd (cc same)
  of_refresh group b durables tags unit there (OfRefresh (refresh.CopyLimit n) cause same) = absurd (cc same)
  of_refresh group b durables tags unit there (OfRefresh refresh.WantOfMemory cause same) = absurd (cc same)
  of_refresh group b durables tags unit there (OfSave refused) = of_save group b unit refused.why there refused.cause refused.told

  module _ (g : Given) where
    of_making : (unit : PlantUnit) → IsMakingRefusal g cells books (DeviceFault unit) → HasRisen before now
    of_making unit (OfTaking (OfBroken tag same so)) = of_cell tag (record { cell = so.cell; there = so.there; so = so.so.0 })
    of_making unit (OfTaking (OfRoom tag takes rows same so)) = absurd (cc same)
    of_making unit (OfTaking (OfLimit tag number same so)) = absurd (cc same)
    of_making unit (OfCommit tapes (OfFault tag same so front)) = of_cell tag so
    of_making unit (OfCommit tapes (no_memory.OfMemory same)) = absurd (cc same)
    of_making unit (OfRefreshing tapes committed so) = of_refresh so.group so.book (durable_lists cells) _ unit so.there so.refused
    of_making unit (OfMemory same) = absurd (cc same)

    of_rest : (notes : List WorkerNote) (unit : PlantUnit) → IsRefused g notes cells books (DeviceFault unit) → HasRisen before now
    of_rest notes unit (OfFinding (OfTake works over unfound so)) = absurd so
    of_rest notes unit (OfFinding (OfAsk takes works over unfound so)) = absurd so
    of_rest notes unit (OfFinding (OfRowAsk takes asks works over unfound so)) = absurd so
    of_rest notes unit (OfFinding (OfTurns begun so)) = absurd so
    of_rest notes unit (OfStop within so) = absurd so
    of_rest notes unit (OfMaking ended so) = of_making unit so
    of_rest notes unit (OfPull ended made so) = absurd so.differs.differs
    of_rest notes unit (OfWant same) = absurd (cc same)

    pub of_undone : (opened : List (Cell D)) (opened_books : List (Book D)) (notes : List WorkerNote) (unit : PlantUnit)
        → IsUndone g opened opened_books cells books notes (DeviceFault unit) → HasRisen before now
    of_undone opened opened_books notes unit (OfSettling known known_groups copied groups_copied (OfTag so)) = absurd so
    of_undone opened opened_books notes unit (OfSettling known known_groups copied groups_copied (OfGroup kept so)) = absurd so
    of_undone opened opened_books notes unit (OfSettling known known_groups copied groups_copied (OfRest so)) = of_rest notes unit so
    of_undone opened opened_books notes unit (OfNone same) = absurd (cc same)

    pub faults_counted : (opened : List (Cell D)) (opened_books : List (Book D)) (notes : List WorkerNote)
        (answer : Result (String Global) Status) → IfErr answer (IsUndone g opened opened_books cells books notes)
        → IfErr answer (IsFaultCounted before now)
    faults_counted opened opened_books notes (Ok text) undone = tt
    faults_counted opened opened_books notes (Err why) undone = λ unit same.
        of_undone opened opened_books notes unit (subst (IsUndone g opened opened_books cells books notes) same undone)

-- where all steps are made no device has failed, and no fault is counted
module _ {D : Type 0} (device : D → Device) (base : Base) (old new : DeviceTraces)
    (cells : List (Cell D)) (books : List (Book D)) (s : Session) (is : IsOver device base old new cells books s)
    (opened : List (Cell D)) (opened_books : List (Book D)) (opening : AreUnitsOpen device base old opened opened_books)
    (same : AllZip IsContinued opened cells) (same_books : AllZip IsContinuedGroup opened_books books) where
  -- a cell that has not failed counts no fault of its device
  sound_cells : (defs : List TagDef) (first last : List (Cell D)) (ts : List TagHistory) → AreCellsOpened device defs old first
      → AllZip IsContinued first last → AreHistoriesOf device last ts → All IsCommittedCell last
      → All (λ (c : Cell D). (device c.journal.dev).faults ≡ 0) last
  sound_cells defs first [] ts was same is committed = λ i d below. absurd (omega (arith, below))
  sound_cells defs [] (c ∷ cs) ts was same is committed = absurd same
  sound_cells [] (e ∷ es) (c ∷ cs) ts was same is committed = absurd was
  sound_cells (d ∷ ds) (e ∷ es) (c ∷ cs) [] was same is committed = absurd is
  sound_cells (d ∷ ds) (e ∷ es) (c ∷ cs) (t ∷ ts) was same is committed =
      All-cons (λ (x : Cell D). (device x.journal.dev).faults ≡ 0) c cs
      (is.0.faultless (All-head IsCommittedCell c cs committed).usable ∙ same.0.faults ∙ was.0.opened_faultless)
      (sound_cells ds es cs ts was.1 same.1 is.1 (All-tail IsCommittedCell c cs committed))

  pub none_counted : (g : Given) → AreStepsMade g cells books → (before now : ℕ) → CountsClosed device cells books before now → now ≡ before
  none_counted g made before now counts =
      counts.faultless (sound_cells base.tags.items opened cells s.tags.items opening.tags same is.tags made.committed)
      (λ i b below.
      let first : i < length opened_books = omega (arith, below, zip_length IsContinuedGroup opened_books books same_books) in
      let group : i < length s.groups.items = omega (arith, is.groups.as_many, below) in
      let a = element opened_books i first in
      let d = element base.groups.items i (omega (arith, first, opening.as_many_groups)) in
      (is.groups.each i b (element s.groups.items i group) below).faultless (made.refreshed.each i b below).usable
      ∙ (zip_at IsContinuedGroup opened_books books i a b same_books below).faults
      ∙ (opening.groups.each i d a first).opening.faults)
