-- The tags and groups of a session: how they were opened, what holds of each, and what was done with them.
use Rattle.std.specs.Prelude.{◌≡◌, ℕ, ◌+◌, ◌*◌, ◌<◌, ◌≤◌, List, [], All, length, map, nat_eq, slice_index_or, Option, if◌then◌else◌}
use Rattle.std.specs.List.{AllZip, sum_by}
use Rattle.trend_num.specs.{most_stored, Rec, TagDef}
use Rattle.trend_model.specs.{IsBounded, Event, Origin, Raw}
use Rattle.trend_model.specs.State.{Stands, followed}
use Rattle.disk_model.specs.{LeftSince, Trace, moment}
use Rattle.tag_cell.specs.{Entry, TagHistory, IsOpenedWell, IsSafe, IsLegal, IsTapeReplayed, cell_start, cell_walked, opened, taken, TagOpening}
use Rattle.sheet_law.specs.{Grid, complete_windows}
use Rattle.calc_refresh.specs.{lists_of, total_length, most_cells, most_copies, IsGrid, IsGroup, grid_of, GroupDefParts}
use Rattle.group_book.specs.{GroupHistory, Turn, IsBookSafe as IsGroupSafe, AreRowsEvaluated, IsBookLegal as IsGroupLegal, IsBookOpenedWell, book_start, book_walked, GroupOpening}
use Rattle.plant_store.specs.Groups.{DeviceTraces, IsGroupOpening, group_parts_of, group_definition_text, group_trace_at, input_records_of}
use Rattle.tag_base.specs.{Base, GroupDef, Refresher}
use Rattle.plant_store.specs.Tags.{IsOpened, tag_trace_of}
use Rattle.crash_recovery.specs.{OpensAt}
use Rattle.tag_core.specs.Core.{Core}
use Rattle.value_rows.specs.{Query, RawRow}
use Rattle.session_audit.specs.{Item, ask_of, take_of, AreTapesBegun, AreTapesWhole, EndsInSave, ArePullsDurable, refreshes, row_ask_of}
use Rattle.session_audit.specs.Agendas.{ask_item, row_item}
use Rattle.session_report.specs.{Session}

-- ---- a tag

-- For a history of a tag of this origin: each entry of the tape agrees with the archive of that history followed by the
-- values taken before the entry. What the archive keeps is near each of all the values.
pub record IsKeptFor (org : Origin) (h : List Event) (t : TagHistory) : Type 0 where
  pub legal : IsLegal org h t.def t.opening t.tape.items (record { records = t.recs.items; summary = t.summary }) t.acked
  pub bounded : IsBounded org (followed h (map Raw (taken t.tape.items)))

-- a device with these calls has made at least so many
abbrev pub HasMade : ℕ → Trace → Type 0
HasMade many t = many ≤ moment t

-- Replaying the takes from the opening gives each entry of the tape, and the state at the end. The tag is kept for every
-- history for which its opening stands. After a crash at any moment since the opening, the tag's device, with these calls,
-- has the oldest values that were taken since, among them all acknowledged ones. No moment of its opening or of a commit
-- is above the number of these calls. From what the device was before the command until its opening ended, a crash left
-- what it might have left before, or what recovers the same; the opening is what the device then recovers. Each pull of a
-- group ended where the acknowledged records ended then.
pub record IsTagSound (def : TagDef) (t : TagHistory) (before now : Trace) : Type 0 where
  pub replayed : IsTapeReplayed t.def t.opening t.tape.items (record { records = t.recs.items; summary = t.summary }) t.acked
  pub kept : (org : Origin) (h : List Event) → org.step ≡ t.def.step → Stands org h (opened t.opening) → IsKeptFor org h t
  pub safe : t.def.name ≡ def.name → IsSafe t.def t.opening t.tape.items (LeftSince now)
  pub clocked : t.def.name ≡ def.name → HasMade (cell_walked (cell_start t.opening) t.tape.items).moment now
  pub opened_before : t.def.name ≡ def.name → HasMade t.opening.moment now
  pub begun : t.def.name ≡ def.name → IsOpenedWell t.def t.opening before now
  pub pulled : ArePullsDurable t.def t.opening t.tape.items

-- the core that a tag of this definition was opened as; its room for records does not matter here and is set to 0
abbrev pub core_of : TagDef → TagOpening → Core
core_of def o = record { state = opened o; step = def.step; spare = 0 }

-- A tag is that of a base, and was opened as what its device, with these calls, recovered. No call of the device had failed
-- then. How many calls the opening makes follows from the device's bytes (`OpensAt`).
pub record IsTagOpened (def : TagDef) (before : Trace) (its : TagDef) (o : TagOpening) : Type 0 where
  pub def_is : its ≡ def
  pub found : IsOpened def before (core_of its o)
  pub opened_at : OpensAt def before o.moment
  pub faultless : o.faults ≡ 0

-- ---- a group

abbrev pub grid : GroupHistory → Grid
grid g = grid_of g.def.start g.def.period

-- A group on a device with these calls. Its inputs, calculations and windows are allowed. If the opening's rows are those
-- from scratch on the records of its tags, the group's rows and all replies are from scratch too, at the version that each
-- had then. The other facts hold in any case. There is one value of each calculation for each
-- complete window. Rows and replies are from scratch in each window that was due since the opening, and in any other those
-- of the opening. As many values were evaluated as the refreshes had due. After a crash at any moment since the opening,
-- the device of a group with a definition text has one of the versions since the last save before the crash, with its rows.
-- No moment of the opening or of a save is above the number of calls of the device. The opening is what the device stood for
-- before the command; until it ended a crash left what it might have left before, or what stands for the same.
pub record IsGroupSound (d : GroupDef) (g : GroupHistory) (before now : Trace) : Type 0 where
  pub defined : IsGroup g.def.inputs g.def.calcs × IsGrid (grid g)
  pub kept : IsGroupLegal g.def.calcs (grid g) g.opening g.tape.items g.versions.items (lists_of g.copies.items) (lists_of g.rows.items)
  pub evaluated : AreRowsEvaluated g.def.calcs (grid g) g.opening g.tape.items (lists_of g.copies.items) (lists_of g.rows.items) g.evals
  pub safe : g.text.items ≡ group_definition_text d → IsGroupSafe g.text.items g.def.calcs (grid g) g.opening (lists_of g.copies.items) g.tape.items
      (LeftSince now)
  pub clocked : g.text.items ≡ group_definition_text d → HasMade (book_walked (book_start g.opening) g.tape.items).moment now
  pub opened_before : g.text.items ≡ group_definition_text d → HasMade g.opening.moment now
  pub begun : g.text.items ≡ group_definition_text d → IsBookOpenedWell g.text.items g.def g.opening before now

-- a fact of each group of a session, at its place, with its definition in the base
abbrev pub AtEachGroup : Base → Session → (ℕ → GroupDef → GroupHistory → Type 0) → Type 0
AtEachGroup base s P = (i : ℕ) (d : GroupDef) (g : GroupHistory) → i < length s.groups.items
    → P i (slice_index_or base.groups.items i d) (slice_index_or s.groups.items i g)

-- a session has the groups of a base, and each is sound
pub record AreGroupsSound (base : Base) (before now : DeviceTraces) (s : Session) : Type 0 where
  pub as_many : length s.groups.items ≡ length base.groups.items
  pub each : AtEachGroup base s (λ i d g. IsGroupSound d g (group_trace_at before d) (group_trace_at now d))

-- The base has this group at this place. It was opened as what its device, with these calls, stood for, after these records
-- of the tags of its inputs were recovered.
pub record IsGroupOpened (i : ℕ) (d : GroupDef) (before : Trace) (recovered : List (List Rec)) (group : ℕ) (def : GroupDefParts)
    (text : List ℕ) (o : GroupOpening) : Type 0 where
  pub number : group ≡ i
  pub def_is : def ≡ group_parts_of d
  pub text_is : text ≡ group_definition_text d
  pub opening : IsGroupOpening d recovered before o

-- ---- what was opened

-- each tag was opened like that
abbrev pub WereTagsOpened : Base → DeviceTraces → List TagHistory → Type 0
WereTagsOpened base before tags =
    AllZip (λ def (t : TagHistory). IsTagOpened def (tag_trace_of before def) t.def t.opening) base.tags.items tags

-- the records with which the tags were opened
abbrev pub opening_records_of : Session → List (List Rec)
opening_records_of s = map (λ t. t.opening.recs.items) s.tags.items

-- all tags together were opened with not too many records
abbrev pub HasFewRecords : Session → Type 0
HasFewRecords s = sum_by (λ (t : TagHistory). length t.opening.recs.items) s.tags.items ≤ most_stored

-- each tag and each group was opened like that, and all tags together had not too many records then
pub record AreUnitsOpened (base : Base) (before : DeviceTraces) (s : Session) : Type 0 where
  pub tags : WereTagsOpened base before s.tags.items
  pub groups : AtEachGroup base s (λ i d g. IsGroupOpened i d (group_trace_at before d) (input_records_of (opening_records_of s) d)
      g.group g.def g.text.items g.opening)
  pub few : HasFewRecords s

-- ---- what the workers, and the session after them, have done

abbrev pub tag_tape : TagHistory → List Entry
tag_tape t = t.tape.items

abbrev pub group_tape : GroupHistory → List Turn
group_tape g = g.tape.items

-- the records of the tag at a place
abbrev pub tag_records_of : Session → ℕ → List Rec
tag_records_of s tag = slice_index_or (map (λ t. t.recs.items) s.tags.items) tag []

-- how many turns the refreshers of a group make together
abbrev pub turns_in : ℕ → List Refresher → ℕ
turns_in group refreshers = sum_by (λ r. if nat_eq r.group group then r.turns else 0) refreshers

-- Each tag has taken from each collector the first of the rows of its file that are its own, in their order, and nothing
-- else. An item states what a row leaves.
abbrev pub AreTakesBegun : (ℕ → ℕ → RawRow → Option Item) → List (List RawRow) → Session → Type 0
AreTakesBegun item_of rows s = AreTapesBegun tag_tape take_of item_of rows s.tags.items

-- the same of the readers' questions about tags
abbrev pub AreAsksBegun : List (List Query) → Session → Type 0
AreAsksBegun queries s = AreTapesBegun tag_tape ask_of ask_item queries s.tags.items

-- the same of all of them, and of the questions on the groups' tapes
pub record IsBegun (item_of : ℕ → ℕ → RawRow → Option Item) (rows : List (List RawRow)) (queries : List (List Query)) (s : Session)
    : Type 0 where
  pub takes : AreTakesBegun item_of rows s
  pub asks : AreAsksBegun queries s
  pub row_asks : AreTapesBegun group_tape row_ask_of row_item queries s.groups.items

-- Each tag has taken from each collector exactly the rows of its file that are its own, in their order, each once. An
-- item states what a row leaves. The same holds for the readers' questions, at tags and at groups.
pub record IsOnTapes (item_of : ℕ → ℕ → RawRow → Option Item) (rows : List (List RawRow)) (queries : List (List Query))
    (s : Session) : Type 0 where
  pub takes : AreTapesWhole tag_tape take_of item_of rows s.tags.items
  pub asks : AreTapesWhole tag_tape ask_of ask_item queries s.tags.items
  pub row_asks : AreTapesWhole group_tape row_ask_of row_item queries s.groups.items

-- all values of a tag are acknowledged
abbrev pub IsAcknowledged : TagHistory → Type 0
IsAcknowledged t = t.acked ≡ t.summary.taken

-- all is on the tapes, and all values that were taken are acknowledged
pub record IsRecorded (item_of : ℕ → ℕ → RawRow → Option Item) (rows : List (List RawRow)) (queries : List (List Query))
    (s : Session) : Type 0 where
  pub on_tapes : IsOnTapes item_of rows queries s
  pub acknowledged : All IsAcknowledged s.tags.items

-- A group was refreshed once more than its refreshers have turns, and was saved after that. It has taken into account as
-- many records of each input as the tag has, and is within its limits.
pub record IsGroupRefreshed (d : GroupDef) (turns : ℕ) (s : Session) (g : GroupHistory) : Type 0 where
  pub refreshed : length (refreshes g.tape.items) ≡ turns + 1
  pub versions : g.versions.items ≡ map (λ tag. length (tag_records_of s tag)) d.inputs.items
  pub few_cells : complete_windows (grid g) (lists_of g.copies.items) * length g.def.calcs.calcs ≤ most_cells
  pub few_copies : total_length (lists_of g.copies.items) ≤ most_copies
  pub saved : EndsInSave g.tape.items
