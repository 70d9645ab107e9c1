-- What single steps of opening and giving back leave.
use Rattle.std.specs.Prelude.{◌≡◌, ◌≢◌, ℕ, ◌<◌, ◌≤◌, List, length, slice_index_or, string_bytes, Bool, IsTrue, String}
use Rattle.std.specs.declared.alloc.Global.{Global}
use Rattle.trend_num.specs.{Rec}
use Rattle.disk_model.specs.{During}
use Rattle.tag_base.specs.{GroupDef}
use Rattle.group_book.specs.{LoadNo, IsBookCause, BookStaysSame}
use Rattle.plant_store.specs.Groups.{DeviceTraces, group_parts_of, input_records_of, group_definition_text, group_trace_at}

-- a crash at any moment since left of this device what a crash might have left before, or what stands for the same of
-- this group
abbrev pub StaysSameOf : List ℕ → GroupDef → DeviceTraces → DeviceTraces → Type 0
StaysSameOf name g old new = During (old name) (new name) (BookStaysSame (group_definition_text g) (group_parts_of g) (old name))

-- the same of the device of each group from this place on
abbrev pub RestStaysSame : ℕ → List GroupDef → DeviceTraces → DeviceTraces → Type 0
RestStaysSame from groups old new = (i : ℕ) (g : GroupDef) → from ≤ i → i < length groups
    → During (group_trace_at old (slice_index_or groups i g)) (group_trace_at new (slice_index_or groups i g))
    (BookStaysSame (group_definition_text (slice_index_or groups i g)) (group_parts_of (slice_index_or groups i g)) (group_trace_at old (slice_index_or groups i g)))

-- the store has a place for each of the first names
abbrev pub HavePlaces : ℕ → List (String Global) → (List ℕ → Bool) → Type 0
HavePlaces many names has_place = (i : ℕ) (s : String Global) → i < many → IsTrue (has_place (string_bytes (slice_index_or names i s)))

-- each device except those of the first names is unchanged
abbrev pub AreOtherNamesSame : ℕ → List (String Global) → DeviceTraces → DeviceTraces → Type 0
AreOtherNamesSame many names old new = (n : List ℕ)
    → ((i : ℕ) (s : String Global) → i < many → n ≢ string_bytes (slice_index_or names i s)) → new n ≡ old n

-- why the group at this place is not opened
abbrev pub IsCauseAt : ℕ → List GroupDef → List (List Rec) → DeviceTraces → LoadNo → Type 0
IsCauseAt i groups records old why = (g : GroupDef)
    → IsBookCause (group_definition_text (slice_index_or groups i g)) (group_parts_of (slice_index_or groups i g))
    (input_records_of records (slice_index_or groups i g)) (group_trace_at old (slice_index_or groups i g)) why
