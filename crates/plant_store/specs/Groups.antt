-- The groups of a base, opened as books over a store of devices.
use Rattle.std.specs.Prelude.{◌≡◌, ◌≢◌, ℕ, ◌<◌, List, [], ◌++◌, length, map, codes, string_bytes, slice_index_or, IfSome, IsSome, false, All, AllPairs, String}
use Rattle.std.specs.declared.alloc.Global.{Global}
use Rattle.trend_num.specs.{Rec}
use Rattle.disk_model.specs.{Shows, During, Trace, Device}
use Rattle.branded_disk.specs.{IsUnused, Past}
use Rattle.calc_refresh.specs.{GroupDefParts, lists_of, AreRowsWhole}
use Rattle.archive_file.specs.{TextOpensAt}
use Rattle.group_layout.specs.{IsUnsaved, GainsGroupSync, definition_text}
use Rattle.tag_base.specs.{GroupDef}
use Rattle.group_book.specs.{GroupOpening, StandsForGroup, BookStaysSame, cut, ToldBook, device_name_of, versions_of, moment_of, faults_of}

-- the traces of a store's devices by name
abbrev pub DeviceTraces : Type 0
DeviceTraces = List ℕ → Trace

-- the name of a group's device
abbrev pub device_name : List ℕ → List ℕ
device_name name = name ++ codes ".grp"

-- the trace of a group's device, from these traces by name
abbrev pub group_trace_at : DeviceTraces → GroupDef → Trace
group_trace_at traces g = traces (device_name g.name)

-- these are the names of the groups' devices, in order
abbrev pub AreNamesOf : List GroupDef → List (String Global) → Type 0
AreNamesOf groups names = map string_bytes names ≡ map (λ g. device_name g.name) groups

-- all groups in the list have different names
abbrev pub AreDistinct : List GroupDef → Type 0
AreDistinct groups = AllPairs (λ a b. a.name ≢ b.name) groups

-- the device of each of these groups of which it is told what it was is that still
abbrev pub AreGroupsUnused : Past → List GroupDef → DeviceTraces → Type 0
AreGroupsUnused before groups now = All (λ g. IsUnused before now (device_name g.name)) groups

-- the definition of a group that its book is made with
abbrev pub group_parts_of : GroupDef → GroupDefParts
group_parts_of g = record { inputs = length g.inputs.items; start = g.start; period = g.period; calcs = g.calcs }

-- the text by which a device is recognized as this group's
abbrev pub group_definition_text : GroupDef → List ℕ
group_definition_text g = definition_text g.name g.start g.period g.calcs

-- for each input of a group the records of its tag
abbrev pub input_records_of : List (List Rec) → GroupDef → List (List Rec)
input_records_of records g = map (λ tag. slice_index_or records tag []) g.inputs.items

-- A group is opened with these versions and rows: its device stood for them, and no version is above the number of
-- records of its tag. The opening ends one call after those that the device had made, or, if it was begun, a few more.
pub record IsGroupOpening (g : GroupDef) (recovered : List (List Rec)) (o : Trace) (opening : GroupOpening) : Type 0 where
  pub stood : Shows o (StandsForGroup (group_definition_text g) (group_parts_of g) opening.versions.items (lists_of opening.rows.items))
  pub within : map length (cut opening.versions.items recovered) ≡ opening.versions.items
  pub faults : opening.faults ≡ 0
  pub moment : TextOpensAt (IsUnsaved (group_definition_text g)) o opening.moment

-- each of the first groups is opened so
abbrev pub AreGroupsOpened : ℕ → List GroupDef → List (List Rec) → DeviceTraces → List GroupOpening → Type 0
AreGroupsOpened many groups records old openings = (k : ℕ) (g : GroupDef) (x : GroupOpening) → k < many
    → IsGroupOpening (slice_index_or groups k g) (input_records_of records (slice_index_or groups k g)) (group_trace_at old (slice_index_or groups k g))
    (slice_index_or openings k x)

-- The book is that of the group at place i as it is opened. It has what its device stood for, and the first records of
-- its tags. It has a row for each calculation, with one value for each complete window. A device that had a finished
-- layout of this group has gained one sync and nothing else. A crash at any moment since left of the device what a crash
-- might have left before, or what stands for the same.
pub record IsBookOpened {D : Type 0} (device : D → Device) (i : ℕ) (g : GroupDef)
    (recovered : List (List Rec)) (o : Trace) (b : ToldBook D) : Type 0 where
  pub group : b.group ≡ i
  pub def : b.def ≡ group_parts_of g
  pub text : b.text ≡ group_definition_text g
  pub named : device_name_of b.text ≡ device_name g.name
  pub tags : b.tags ≡ g.inputs.items
  pub opening : IsGroupOpening g recovered o b.opening
  pub moment : b.opening.moment ≡ moment_of device b.dev
  pub versions : b.opening.versions.items ≡ versions_of b
  pub copies : b.sheet.copies ≡ cut b.opening.versions.items recovered
  pub rows : b.sheet.rows ≡ lists_of b.opening.rows.items
  pub whole : AreRowsWhole b.sheet
  pub evals : b.sheet.evals ≡ 0
  pub tape : b.tape ≡ []
  pub usable : b.failed ≡ false
  pub has_device : IsSome b.dev
  pub faultless : faults_of device b.dev ≡ 0
  pub synced : IfSome b.dev (λ dev. GainsGroupSync (group_definition_text g) o (device dev).trace)
  pub same : IfSome b.dev (λ dev. During o (device dev).trace (BookStaysSame (group_definition_text g) (group_parts_of g) o))

-- the books are those of the first groups, each at its place
pub record AreBooksOpened {D : Type 0} (device : D → Device) (groups : List GroupDef)
    (records : List (List Rec)) (old : DeviceTraces) (books : List (ToldBook D)) : Type 0 where
  pub each : (i : ℕ) (g : GroupDef) (b : ToldBook D) → i < length books
      → IsBookOpened device i (slice_index_or groups i g) (input_records_of records (slice_index_or groups i g))
      (group_trace_at old (slice_index_or groups i g)) (slice_index_or books i b)

-- a crash at any moment since left of the device of each group what a crash might have left before, or what stands for
-- the same
abbrev pub AllStaySame : List GroupDef → DeviceTraces → DeviceTraces → Type 0
AllStaySame groups old new =
    All (λ g. During (group_trace_at old g) (group_trace_at new g) (BookStaysSame (group_definition_text g) (group_parts_of g) (group_trace_at old g))) groups

-- each device except those of these groups is unchanged
abbrev pub AreOtherGroupsSame : List GroupDef → DeviceTraces → DeviceTraces → Type 0
AreOtherGroupsSame groups old new = (n : List ℕ) → All (λ g. n ≢ device_name g.name) groups → new n ≡ old n
