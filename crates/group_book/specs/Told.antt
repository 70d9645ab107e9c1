-- What a clause sees of a book, what the book's type keeps, and what its calls change.
use Rattle.std.specs.Prelude.{◌≡◌, ◌≢◌, ◌⊎◌, ◌==◌, ℕ, ◌+◌, ◌<◌, ◌≤◌, if◌then◌else◌, codes, Bool, true, false, List, [], ◌∷◌, ◌++◌, All, length, map, Option, None, Some, IfSome, IsSome, slice_index, slice_index_or, Vec}
use Rattle.std.specs.declared.alloc.Global.{Global}
use Rattle.trend_num.specs.{Rec, CalcValue}
use Rattle.disk_model.specs.{Rose, IsShut, IsSettled, LeftSince, Device, FitsName, Trace, moment, seen}
use Rattle.tag_cell.specs.{Pulled}
use Rattle.calc_refresh.specs.{GroupDefParts, lists_of, IsRefreshed, IsGrid, IsGroup, SheetState, grid_of}
use Rattle.sheet_law.specs.{complete_windows, IsScratch, column}
use Rattle.group_layout.specs.{BlockParts, end_of, last_of, unsaved, HasSaved, cell_of}
use Rattle.archive_file.specs.{blocks_at}
use Rattle.group_book.specs.declared.history.GroupHistory.{GroupHistory}
use Rattle.group_book.specs.declared.history.GroupOpening.{GroupOpening}
use Rattle.group_book.specs.declared.turn.Turn.{Turn}
use Rattle.group_book.specs.declared.turn.Turn.TheVariants.{Refresh, Ask}
use Rattle.group_book.specs.Tapes.{cut, saved_at, book_start, book_walked}
use Rattle.group_book.specs.Histories.{AreRowsEvaluated, AreRowsOver, AreValuesInRange, IsBookLegal, IsRight}
use Rattle.group_book.specs.Crashes.{IsBookSafe}
use Rattle.group_book.specs.Openings.{BookBeganWell}

-- what the last save left: its number, the versions and the rows, and where the next block goes
pub record Saved : Type 0 where
  pub number : ℕ
  pub versions : List ℕ
  pub rows : List (List CalcValue)
  pub end : ℕ

-- a book, on a device of this type or without one: the group's number from 0, its definition and the text of it, the
-- tags of its inputs, its opening, its tape, its sheet, its device, what the last save left, and whether a call of the
-- device failed
pub record ToldBook (D : Type 0) : Type 0 where
  pub group : ℕ
  pub def : GroupDefParts
  pub text : List ℕ
  pub tags : List ℕ
  pub opening : GroupOpening
  pub tape : List Turn
  pub sheet : SheetState
  pub dev : Option D
  pub saved : Saved
  pub failed : Bool

-- the versions of the inputs
abbrev pub versions_of : {D : Type 0} → ToldBook D → List ℕ
versions_of s = map length s.sheet.copies

-- ---- what its type keeps

-- the sheet is that of the definition, with one tag for each input
pub record IsDefined (def : GroupDefParts) (tags : List ℕ) (s : SheetState) : Type 0 where
  pub group : IsGroup def.inputs def.calcs
  pub grid : IsGrid (grid_of def.start def.period)
  pub same_group : s.group ≡ def.calcs
  pub same_grid : s.grid ≡ grid_of def.start def.period
  pub copies : length s.copies ≡ def.inputs
  pub tags_are : length tags ≡ def.inputs

-- the device holds the blocks that it had at the opening and those of the saves since; they give these rows
pub record HoldsBlocks (text : List ℕ) (def : GroupDefParts) (saved : Saved) (c : List ℕ) : Type 0 where
  pub blocks : List BlockParts
  pub has : HasSaved text def.inputs (length def.calcs.calcs) c blocks saved.rows
  pub number : (last_of (unsaved def.inputs) blocks).number ≡ saved.number
  pub versions : (last_of (unsaved def.inputs) blocks).versions ≡ saved.versions
  pub end : end_of (blocks_at (length text)) blocks ≡ saved.end

-- a device that has settled, with a closed gate where the next block goes
pub record IsReady (end : ℕ) (t : Trace) : Type 0 where
  pub settled : IsSettled t
  pub shut : IsShut end (seen t)

-- As long as no call of the device failed, it has settled on what the last save left: one of the versions of the tape, and
-- the rows at that version. They are from scratch if the opening is right, and in any case in each window that was due
-- since; in any other window they are those of the opening. A book on a device opens with values in the range of numbers.
pub record IsKept (text : List ℕ) (def : GroupDefParts) (o : GroupOpening) (tape : List Turn) (copies : List (List Rec))
    (saved : Saved) (failed : Bool) (trace : Option Trace) (ticks faults : ℕ) : Type 0 where
  pub shut : failed ≡ false → IfSome trace (λ t. IsReady saved.end t)
  pub holds : failed ≡ false → IfSome trace (λ t. HoldsBlocks text def saved (seen t))
  pub range : IfSome trace (λ t. AreValuesInRange (lists_of o.rows.items))
  pub rows_are : AreRowsOver def.calcs (grid_of def.start def.period) o (cut saved.versions copies) saved.rows
  pub scratch : IsRight def.calcs (grid_of def.start def.period) o copies
      → IsScratch def.calcs (grid_of def.start def.period) (cut saved.versions copies) saved.rows
  pub versions : saved.versions ≡ saved_at o.versions.items o.versions.items tape
  pub inputs : length saved.versions ≡ def.inputs
  pub number : IfSome (book_walked (book_start o) tape).number (λ n. n ≡ saved.number)
  pub past : (book_walked (book_start o) tape).moment ≤ ticks
  pub opened_before : o.moment ≤ ticks
  pub faultless : failed ≡ false → faults ≡ o.faults
  pub cause : failed ≡ true → Rose o.faults faults

-- whether a window has no flag, or one that is set
abbrev pub is_unsaved : List Bool → ℕ → Bool
is_unsaved flags k = slice_index_or flags k true

-- There is a saved row for each calculation, with a value for each window that has a flag. No window without a
-- value in the sheet has one. Where the flag is not set, the sheet has the values that were saved.
pub record AreFlagged (flags : List Bool) (saved : List (List CalcValue)) (s : SheetState) : Type 0 where
  pub calcs : length saved ≡ length s.group.calcs
  pub windows : All (λ row. length row ≡ length flags) saved
  pub few : length flags ≤ complete_windows s.grid s.copies
  pub kept : (k : ℕ) → is_unsaved flags k ≡ false → column k saved ≡ column k s.rows

-- a book with a definition text, which is that of its device, has a device
abbrev pub IsOnDevice : {D : Type 0} → List ℕ → Option D → Type 0
IsOnDevice text dev = text ≢ [] → IsSome dev

-- what stands before the first comma
abbrev pub upto_comma : List ℕ → List ℕ
upto_comma [] = []
upto_comma (b ∷ bs) = if b == 44 then [] else b ∷ upto_comma bs

-- the name of the device of the group with this definition text, which begins with the group's name and a comma
abbrev pub device_name_of : List ℕ → List ℕ
device_name_of text = upto_comma text ++ codes ".grp"

-- the device of a book may be kept under the name of its group's device
abbrev pub IsOwnDevice : {D : Type 0} → (D → Device) → List ℕ → Option D → Type 0
IsOwnDevice device text None = Unit {0}
IsOwnDevice device text (Some dev) = FitsName (device_name_of text) (device dev).handed

-- a book with a definition text has a device, and that one may be kept under the name of its group's device
abbrev pub IsAtHome : {D : Type 0} → (D → Device) → List ℕ → Option D → Type 0
IsAtHome device text dev = IsOnDevice text dev × IsOwnDevice device text dev

-- the device of a book is at home, and it began well
abbrev pub IsWellHeld : {D : Type 0} → (D → Device) → List ℕ → GroupDefParts → GroupOpening → Option D → Type 0
IsWellHeld device text def o dev = IsAtHome device text dev × BookBeganWell device text def o dev

-- the trace of the device, if there is a device
abbrev pub trace_of : {D : Type 0} → (D → Device) → Option D → Option Trace
trace_of device None = None
trace_of device (Some dev) = Some (device dev).trace

-- the clock of the device, or 0 without a device
abbrev pub moment_of : {D : Type 0} → (D → Device) → Option D → ℕ
moment_of device None = 0
moment_of device (Some dev) = moment (device dev).trace

-- how often a call of the device has failed, or 0 without a device
abbrev pub faults_of : {D : Type 0} → (D → Device) → Option D → ℕ
faults_of device None = 0
faults_of device (Some dev) = (device dev).faults

-- a crash at a moment or later might have left this image of the device; false without a device
abbrev pub LeftOf : Option Trace → ℕ → List ℕ → Type 0
LeftOf None = λ t c. ⊥
LeftOf (Some trace) = LeftSince trace

-- ---- what a call changes

-- a refresh has taken these records of each input into account
pub record IsPublished {D : Type 0} (mores : List (List Rec)) (old new : ToldBook D) : Type 0 where
  pub versions : Vec ℕ Global
  pub versions_are : versions.items ≡ versions_of new
  pub refreshed : IsRefreshed old.sheet new.sheet mores
  pub changed : new ≡ record old { tape = old.tape ++ Refresh versions ∷ []; sheet = new.sheet }

-- the records that were pulled
abbrev pub pulled_records : List Pulled → List (List Rec)
pulled_records ps = map (λ p. p.recs.items) ps

-- what was pulled of an input continues from its version
pub record GoesOn (copies : List (List Rec)) (ps : List Pulled) : Type 0 where
  pub upto : (i : ℕ) (p : Pulled) (rs : List Rec) → i < length ps
      → (slice_index_or ps i p).upto ≡ length (slice_index_or copies i rs) + length (slice_index_or ps i p).recs.items

-- an input whose tag is not below the number of cells gets no record
abbrev pub GivesNone : List ℕ → ℕ → List (List Rec) → Type 0
GivesNone tags cells mores = (i : ℕ) (rs : List Rec) → i < length mores → cells ≤ slice_index tags i
    → slice_index_or mores i rs ≡ []

-- a question was answered with this reply
pub record IsAsked {D : Type 0} (reader row calc k : ℕ) (reply : Option CalcValue) (old new : ToldBook D) : Type 0 where
  pub answer : reply ≡ cell_of old.sheet.rows calc k
  pub changed : new ≡ record old { tape = old.tape ++ Ask reader row calc k reply ∷ [] }

-- ---- what is returned at the end

-- the history of a book, given the trace of its device, if it has one, the clock and the count of faults
pub record IsBookHistory (h : GroupHistory) (trace : Option Trace) (ticks faults : ℕ) : Type 0 where
  pub group : IsGroup h.def.inputs h.def.calcs
  pub grid : IsGrid (grid_of h.def.start h.def.period)
  pub legal : IsBookLegal h.def.calcs (grid_of h.def.start h.def.period) h.opening h.tape.items h.versions.items
      (lists_of h.copies.items) (lists_of h.rows.items)
  pub evaluated : AreRowsEvaluated h.def.calcs (grid_of h.def.start h.def.period) h.opening h.tape.items
      (lists_of h.copies.items) (lists_of h.rows.items) h.evals
  pub safe : IsBookSafe h.text.items h.def.calcs (grid_of h.def.start h.def.period) h.opening (lists_of h.copies.items) h.tape.items
      (LeftOf trace)
  pub past : (book_walked (book_start h.opening) h.tape.items).moment ≤ ticks
  pub opened_before : h.opening.moment ≤ ticks
  pub faults_since : (faults ≡ h.opening.faults) ⊎ Rose h.opening.faults faults
