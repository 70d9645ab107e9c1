-- Why a session has no report. A cause names histories, notes of workers, files, and devices as they were before.
use Rattle.std.specs.Prelude.{◌≡◌, ℕ, ◌+◌, ◌*◌, ◌<◌, ◌≤◌, List, IsSomeAnd, Option, Some, length, map, slice_get, slice_index, slice_index_or}
use Rattle.std.specs.List.{AllZip, sum_by}
use Rattle.trend_num.specs.{most_records, most_stored, Rec}
use Rattle.trend_num.specs.declared.refusal.What.TheVariants.{Cells, Copies, Records}
use Rattle.calc_refresh.specs.{lists_of, total_length, most_cells, most_copies}
use Rattle.sheet_law.specs.{longer, complete_windows}
use Rattle.tag_cell.specs.{TagHistory, taken}
use Rattle.group_book.specs.{GroupHistory, uncut}
use Rattle.plant_status.specs.declared.mismatch.Place.TheVariants.{Ask, Opening, RowAsk, Take, Turns, Version}
use Rattle.plant_status.specs.{Seen}
use Rattle.plant_status.specs.declared.mismatch.Seen.TheVariants.{Number}
use Rattle.plant_status.specs.declared.status.Status.{Status}
use Rattle.plant_status.specs.declared.status.Status.TheVariants.{DeviceFault, Limit, Mismatch, WantOfMemory}
use Rattle.plant_status.specs.declared.unit.Unit.TheVariants.{Group, Tag}
use Rattle.plant_store.specs.Groups.{DeviceTraces, group_trace_at, input_records_of}
use Rattle.plant_store.specs.Tags.{tag_trace_of}
use Rattle.tag_base.specs.{Base, GroupDef}
use Rattle.value_rows.specs.{Query, RawRow}
use Rattle.collector_pool.specs.{WorkerNote}
use Rattle.session_audit.specs.{Item, KeptGroup, Kept, Shown, IsTagAsKept, IsTagDifference, tag_rows, takes_mismatch, IsDifference, IsFirstPart, tape_shows, refreshes, row_ask_of, IsAboveTurns, ask_of, take_of, LacksRow, file_due}
use Rattle.session_audit.specs.Agendas.{ask_item, row_item}
use Rattle.session_audit.specs.BookOpenings.{IsGroupAsKept, IsGroupDifference}
use Rattle.session_audit.specs.Pulls.{IsInputApart, IsInputPulled}
use Rattle.session_report.specs.{Session}
use Rattle.run_command.specs.Copies.{IsGroupUncopied, MayBeUncopied}
use Rattle.run_command.specs.Endings.{HaveAllEnded, IsStop}
use Rattle.run_command.specs.Units.{AreAsksBegun, AreTakesBegun, AtEachGroup, IsAcknowledged, IsBegun, IsGroupOpened, IsGroupRefreshed, IsOnTapes, IsRecorded, IsTagOpened, grid, group_tape, tag_records_of, tag_tape}

-- ---- an opening that has changed

-- What was kept of the openings before the workers began. Each tag and each group of a base was opened as what its device
-- stood for, and all tags together had not too many records.
pub record AreKept (base : Base) (before : DeviceTraces) (tags : List Kept) (groups : List KeptGroup) : Type 0 where
  pub tags_are : AllZip (λ def (k : Kept). IsTagOpened def (tag_trace_of before def) k.def k.opening) base.tags.items tags
  pub as_many : length groups ≡ length base.groups.items
  pub groups_are : (i : ℕ) (k : KeptGroup) → slice_get groups i ≡ Some k → IsSomeAnd (slice_get base.groups.items i) (λ def.
      IsGroupOpened i def (group_trace_at before def) (input_records_of (map (λ (t : Kept). t.opening.recs.items) tags) def) k.group k.def
      k.text.items k.opening)
  pub few : sum_by (λ (k : Kept). length k.opening.recs.items) tags ≤ most_stored

-- a tag is as it was kept, and a group
abbrev pub IsTagKept : TagHistory → Kept → Type 0
IsTagKept t k = IsTagAsKept t.def t.opening k

abbrev pub IsGroupKept : GroupHistory → KeptGroup → Type 0
IsGroupKept g k = IsGroupAsKept g.group g.def g.text.items g.opening k

-- The status has the first difference between the opening of a tag and what was kept of it. The tags before it are as they
-- were kept.
pub record IsTagChanged (tags : List Kept) (s : Session) (tag : ℕ) (kept told : Seen) : Type 0 where
  pub known : Kept
  pub its : TagHistory
  pub known_there : slice_get tags tag ≡ Some known
  pub there : slice_get s.tags.items tag ≡ Some its
  pub differs : IsTagDifference its.def its.opening known kept told
  pub front : (i : ℕ) (t : TagHistory) (k : Kept) → i < tag → IsTagKept (slice_index_or s.tags.items i t) (slice_index_or tags i k)

-- the same of a group
pub record IsGroupChanged (groups : List KeptGroup) (s : Session) (group : ℕ) (kept told : Seen) : Type 0 where
  pub known : KeptGroup
  pub its : GroupHistory
  pub known_there : slice_get groups group ≡ Some known
  pub there : slice_get s.groups.items group ≡ Some its
  pub differs : IsGroupDifference its.group its.def its.text.items its.opening known kept told
  pub front : (i : ℕ) (g : GroupHistory) (k : KeptGroup) → i < group → IsGroupKept (slice_index_or s.groups.items i g) (slice_index_or groups i k)

-- each tag is as it was kept
abbrev pub AreTagsKept : List Kept → Session → Type 0
AreTagsKept tags s = (i : ℕ) (t : TagHistory) (k : Kept) → i < length s.tags.items
    → IsTagKept (slice_index_or s.tags.items i t) (slice_index_or tags i k)

-- the opening of one unit has changed; if it is a group, each tag is as it was kept
abbrev pub IsUnitChanged : List Kept → List KeptGroup → Session → Status → Type 0
IsUnitChanged tags groups s (Mismatch (Opening (Tag tag)) kept told) = IsTagChanged tags s tag kept told
IsUnitChanged tags groups s (Mismatch (Opening (Group group)) kept told) =
    IsGroupChanged groups s group kept told × AreTagsKept tags s
IsUnitChanged tags groups s why = ⊥

-- what was kept of all openings, and which unit has changed since
pub record IsOpeningCause (base : Base) (before : DeviceTraces) (s : Session) (why : Status) : Type 0 where
  pub tags : List Kept
  pub groups : List KeptGroup
  pub kept : AreKept base before tags groups
  pub changed : IsUnitChanged tags groups s why

-- ---- what no file has

-- An entry of the tape of a tag or group is not the next row of its worker that is due there. The tapes of those before it
-- show first rows alone.
pub record IsTapeDifference {U E A : Type 0} (tape_of : U → List E) (work : E → Option Shown) (item_of : ℕ → ℕ → A → Option Item)
    (files : List (List A)) (units : List U) (unit place : ℕ) (kept told : Seen) : Type 0 where
  pub its : U
  pub there : slice_get units unit ≡ Some its
  pub differs : IsDifference work (λ w. file_due item_of files w unit) (tape_of its) place kept told
  pub front : (k worker : ℕ) (u : U) → k < unit
      → IsFirstPart (tape_shows work worker (tape_of (slice_index_or units k u))) (file_due item_of files worker k)

-- no group was refreshed more often than it has turns
abbrev pub AreTurnsWithin : (ℕ → ℕ) → Session → Type 0
AreTurnsWithin turns_of s = (group : ℕ) (g : GroupHistory) → group < length s.groups.items
    → length (refreshes (slice_index_or s.groups.items group g).tape.items) ≤ turns_of group

-- a group was refreshed more often than it has turns; those before it were not
pub record AreTurnsPassed (turns_of : ℕ → ℕ) (s : Session) (group : ℕ) (kept told : Seen) : Type 0 where
  pub its : GroupHistory
  pub there : slice_get s.groups.items group ≡ Some its
  pub above : IsAboveTurns (turns_of group) its.tape.items kept told
  pub front : (k : ℕ) (g : GroupHistory) → k < group → length (refreshes (slice_index_or s.groups.items k g).tape.items) ≤ turns_of k

-- An entry is not the next row of its worker: a take; or a question about a tag, while all takes are; or a question on a
-- group's tape, while all takes and all questions about tags are. Or all entries are, and a group was refreshed too often.
abbrev pub IsTapeCause : (ℕ → ℕ → RawRow → Option Item) → (ℕ → ℕ) → List (List RawRow) → List (List Query) → Session → Status → Type 0
IsTapeCause item_of turns_of rows queries s (Mismatch (Take tag place) kept told) =
    IsTapeDifference tag_tape take_of item_of rows s.tags.items tag place kept told
IsTapeCause item_of turns_of rows queries s (Mismatch (Ask tag place) kept told) =
    AreTakesBegun item_of rows s × IsTapeDifference tag_tape ask_of ask_item queries s.tags.items tag place kept told
IsTapeCause item_of turns_of rows queries s (Mismatch (RowAsk group place) kept told) = AreTakesBegun item_of rows s × AreAsksBegun queries s
    × IsTapeDifference group_tape row_ask_of row_item queries s.groups.items group place kept told
IsTapeCause item_of turns_of rows queries s (Mismatch (Turns group) kept told) =
    IsBegun item_of rows queries s × AreTurnsPassed turns_of s group kept told
IsTapeCause item_of turns_of rows queries s why = ⊥

-- ---- a step that cannot be made

-- Why a row is not taken. The tape of its tag lacks a row. The answer names the tag's device. Or the tape is full, which a
-- history does not show; the answer has the number of its takes and that of the tag's rows. Or the tag could have too many
-- records.
pub data IsTakeCause (item_of : ℕ → ℕ → RawRow → Option Item) (rows : List (List RawRow)) (s : Session) (why : Status) : Type 0 where
  OfDevice : (tag : ℕ) → why ≡ DeviceFault (Tag tag)
      → IsSomeAnd (slice_get s.tags.items tag) (λ t. LacksRow take_of item_of rows tag t.tape.items) → IsTakeCause item_of rows s why
  OfRoom : (tag : ℕ) → IsSomeAnd (slice_get s.tags.items tag) (λ t.
      (why ≡ takes_mismatch tag (length (taken t.tape.items)) (tag_rows tag rows)) × LacksRow take_of item_of rows tag t.tape.items)
      → IsTakeCause item_of rows s why
  OfLimit : (tag number : ℕ) → why ≡ Limit Records number → IsSomeAnd (slice_get s.tags.items tag) (λ t.
      (number ≡ length t.recs.items) × (most_records < number + 2) × LacksRow take_of item_of rows tag t.tape.items)
      → IsTakeCause item_of rows s why

-- the answer names a tag's device; all values of the tags before it are acknowledged
pub record IsCommitCause (s : Session) (why : Status) : Type 0 where
  pub tag : ℕ
  pub told : why ≡ DeviceFault (Tag tag)
  pub there : tag < length s.tags.items
  pub front : (k : ℕ) (t : TagHistory) → k < tag → IsAcknowledged (slice_index_or s.tags.items k t)

-- what a group would have of each input with all records of the tags
abbrev pub copies_with_all : Session → GroupDef → GroupHistory → List (List Rec)
copies_with_all s d g = longer (lists_of g.copies.items) (uncut g.versions.items (map (tag_records_of s) d.inputs.items))

-- and how many cells its sheet would have
abbrev pub cells_with_all : Session → GroupDef → GroupHistory → ℕ
cells_with_all s d g = complete_windows (grid g) (copies_with_all s d g) * length g.def.calcs.calcs

-- the version of an input is above the number of its tag's records; no version before it is
pub record IsAboveTag (s : Session) (d : GroupDef) (g : GroupHistory) (input : ℕ) (kept told : Seen) : Type 0 where
  pub within : input < length d.inputs.items
  pub kept_is : kept ≡ Number (length (tag_records_of s (slice_index d.inputs.items input)))
  pub told_is : told ≡ Number (slice_index g.versions.items input)
  pub above : length (tag_records_of s (slice_index d.inputs.items input)) < slice_index g.versions.items input
  pub front : (k : ℕ) → k < input → slice_index g.versions.items k ≤ length (tag_records_of s (slice_index d.inputs.items k))

-- Why a group is not refreshed or saved. A version is too high. With all records it would have too many cells or copied
-- records. Or the answer names its device.
abbrev pub IsGroupCause : Session → GroupDef → ℕ → GroupHistory → Status → Type 0
IsGroupCause s d group g (Mismatch (Version its input) kept told) = (its ≡ group) × IsAboveTag s d g input kept told
IsGroupCause s d group g (Limit Cells number) = (number ≡ cells_with_all s d g) × (most_cells < number)
IsGroupCause s d group g (Limit Copies number) =
    (number ≡ total_length (copies_with_all s d g)) × (most_copies < number) × (cells_with_all s d g ≤ most_cells)
IsGroupCause s d group g (DeviceFault (Group its)) = its ≡ group
IsGroupCause s d group g why = ⊥

-- the cause is at one group; those before it are refreshed
pub record IsRefreshCause (turns_of : ℕ → ℕ) (base : Base) (s : Session) (why : Status) : Type 0 where
  pub group : ℕ
  pub def : GroupDef
  pub its : GroupHistory
  pub def_there : slice_get base.groups.items group ≡ Some def
  pub there : slice_get s.groups.items group ≡ Some its
  pub front : (k : ℕ) (d : GroupDef) (g : GroupHistory) → k < group
      → IsGroupRefreshed (slice_index_or base.groups.items k d) (turns_of k) s (slice_index_or s.groups.items k g)
  pub cause : IsGroupCause s def group its why

-- a group has of an input what it pulled of its tag
abbrev pub HasPulled : ℕ → ℕ → TagHistory → GroupHistory → Type 0
HasPulled group input t g = IsInputPulled group input t.tape.items t.recs.items g.tape.items (lists_of g.copies.items)

-- the cause is at one input of a group; the inputs before it have what was pulled, and so have those of the groups before
pub record IsPullCause (base : Base) (s : Session) (why : Status) : Type 0 where
  pub group : ℕ
  pub input : ℕ
  pub def : GroupDef
  pub its : GroupHistory
  pub tag : TagHistory
  pub def_there : slice_get base.groups.items group ≡ Some def
  pub there : slice_get s.groups.items group ≡ Some its
  pub within : input < length def.inputs.items
  pub tag_there : slice_get s.tags.items (slice_index def.inputs.items input) ≡ Some tag
  pub front : (i k : ℕ) (d : GroupDef) (g : GroupHistory) (t : TagHistory) → i ≤ group
      → k < length (slice_index_or base.groups.items i d).inputs.items → (i ≡ group → k < input)
      → HasPulled i k (slice_index_or s.tags.items (slice_index (slice_index_or base.groups.items i d).inputs.items k) t)
      (slice_index_or s.groups.items i g)
  pub cause : IsInputApart group input tag.tape.items tag.recs.items its.tape.items (lists_of its.copies.items) why

-- each group is refreshed
abbrev pub AreGroupsRefreshed : (ℕ → ℕ) → Base → Session → Type 0
AreGroupsRefreshed turns_of base s = AtEachGroup base s (λ i d g. IsGroupRefreshed d (turns_of i) s g)

-- Which step cannot be made. A row is not taken. Or all is on the tapes, and a commit is not made. Or all is recorded, and
-- a group is not refreshed. Or all groups are refreshed, one lacks what it pulled, and `quiet` holds: no device fault was
-- counted.
pub data IsStepCause (item_of : ℕ → ℕ → RawRow → Option Item) (turns_of : ℕ → ℕ) (base : Base) (rows : List (List RawRow))
    (queries : List (List Query)) (quiet : Type 0) (s : Session) (why : Status) : Type 0 where
  OfTake : IsTakeCause item_of rows s why → IsStepCause item_of turns_of base rows queries quiet s why
  OfCommit : IsOnTapes item_of rows queries s → IsCommitCause s why → IsStepCause item_of turns_of base rows queries quiet s why
  OfRefresh : IsRecorded item_of rows queries s → IsRefreshCause turns_of base s why
      → IsStepCause item_of turns_of base rows queries quiet s why
  OfPull : IsRecorded item_of rows queries s → AreGroupsRefreshed turns_of base s → quiet → IsPullCause base s why
      → IsStepCause item_of turns_of base rows queries quiet s why

-- ---- the cause

-- Why a session was refused, with these notes of its workers. An opening has changed. A tape shows what no file has. A
-- worker was stopped or found no memory, and no group was refreshed too often. All workers ended by themselves, and a step
-- cannot be made. Memory was wanting; this may come at any time.
pub data IsRefusalCause (item_of : ℕ → ℕ → RawRow → Option Item) (turns_of : ℕ → ℕ) (base : Base) (before : DeviceTraces)
    (rows : List (List RawRow)) (queries : List (List Query)) (quiet : Type 0) (notes : List WorkerNote) (s : Session) (why : Status) : Type 0 where
  OfOpening : IsOpeningCause base before s why → IsRefusalCause item_of turns_of base before rows queries quiet notes s why
  OfTape : IsTapeCause item_of turns_of rows queries s why → IsRefusalCause item_of turns_of base before rows queries quiet notes s why
  OfStop : AreTurnsWithin turns_of s → IsStop notes why → IsRefusalCause item_of turns_of base before rows queries quiet notes s why
  OfStep : HaveAllEnded notes → IsStepCause item_of turns_of base rows queries quiet s why
      → IsRefusalCause item_of turns_of base before rows queries quiet notes s why
  OfMemory : why ≡ WantOfMemory → IsRefusalCause item_of turns_of base before rows queries quiet notes s why

-- Why a session has no report: it was refused, and reports that. Or a refusal, neither a mismatch nor want of memory, was
-- checked before it was reported: a group has other records than its inputs' tags, and the session reports this.
pub data IsSessionCause (item_of : ℕ → ℕ → RawRow → Option Item) (turns_of : ℕ → ℕ) (base : Base) (before : DeviceTraces)
    (rows : List (List RawRow)) (queries : List (List Query)) (quiet : Type 0) (notes : List WorkerNote) (s : Session) (why : Status) : Type 0 where
  OfRefusal : IsRefusalCause item_of turns_of base before rows queries quiet notes s why
      → IsSessionCause item_of turns_of base before rows queries quiet notes s why
  OfCopies : (came : Status) → IsRefusalCause item_of turns_of base before rows queries quiet notes s came → (MayBeUncopied came → ⊥)
      → IsGroupUncopied base s why → IsSessionCause item_of turns_of base before rows queries quiet notes s why
