-- How `frames` ends: what its steps leave of the devices, and which faults were counted.
use Rattle.std.proofs.Common.{◌≡◌, ◌≢◌, inl, inr, ℕ, ◌^◌, ◌<◌, List, Result, Ok, Err, get_or, sym, subst, ◌∙◌}
use Rattle.trend_num.specs.{Rec, CalcValue}
use Rattle.disk_model.specs.{Rose, During, Trace}
use Rattle.tag_base.specs.{Base, GroupDef}
use Rattle.plant_status.specs.{FileId}
use Rattle.plant_status.specs.declared.status.Status.{Status}
use Rattle.plant_status.specs.declared.status.Status.TheVariants.{ReadFault}
use Rattle.plant_status.specs.declared.unit.Unit.TheVariants.{Group}
use Rattle.plant_files.specs.{ToldFiles, IsBaseFile}
use Rattle.plant_store.specs.Tags.{AllStaySame, AreOtherTagsSame}
use Rattle.plant_store.specs.Tags as tag
use Rattle.tag_cell.specs.{device_name}
use Rattle.group_book.specs.{BookStaysSame}
use Rattle.plant_store.specs.Groups.{DeviceTraces, group_parts_of, group_definition_text, group_trace_at}
use Rattle.plant_store.specs.Groups as group
use Rattle.plant_store.specs.BookRefusals as groups
use Rattle.plant_store.specs.{CountsDevices}
use Rattle.store_commands.proofs.Stores.{groups_same, kept_after, names_apart}
use Rattle.store_commands.specs.FrameCommands.{HaveStayed}
use Rattle.store_commands.specs.{IsNamed, IsPlaced}
use Rattle.store_commands.specs.FrameRows.{AreFrameRows, IsFrameRowsRefusal, OfCells, OfCopies, OfDamage, OfFault, OfMemory, OfVersion, OfWindows}
use Rattle.store_commands.proofs.FramePlaces.{named_group}

-- ---- devices

-- the devices of tags are as they were where that of one group alone has changed
pub tags_same : (g : GroupDef) (mid new : DeviceTraces) → ((n : List ℕ) → n ≢ group.device_name g.name → new n ≡ mid n)
    → (t : _) → tag.tag_trace_of new t ≡ tag.tag_trace_of mid t
tags_same g mid new others t = others (device_name t.name) (λ same. names_apart g.name t.name (sym same))

-- first the tags are opened, and then the group
pub have_stayed : (name group_name calc_name : List ℕ) (told : ToldFiles) (base : Base) (g : GroupDef) (i k : ℕ) (old mid new : DeviceTraces)
    → IsBaseFile (told name) base → IsNamed base.groups.items group_name calc_name g i k → AllStaySame base.tags.items old mid
    → AreOtherTagsSame base.tags.items old mid → During (group_trace_at mid g) (group_trace_at new g) (BookStaysSame (group_definition_text g) (group_parts_of g) (group_trace_at mid g))
    → ((n : List ℕ) → n ≢ group.device_name g.name → new n ≡ mid n) → HaveStayed name group_name calc_name told old new
have_stayed name group_name calc_name told base g i k old mid new read named tags others stays rest = record {
  base = base;
  g = g;
  i = i;
  k = k;
  read = read;
  named = named;
  tags_stay = kept_after base.tags.items old mid new (tags_same g mid new rest) tags;
  group_stays = subst (λ o. During o (group_trace_at new g) (BookStaysSame (group_definition_text g) (group_parts_of g) o)) (groups_same base.tags.items old mid others g) stays;
  rest = λ n no_tag no_group. rest n no_group ∙ others n no_tag;
}

-- so it is of the group that is read at its place
pub stayed_at : (name group_name calc_name : List ℕ) (told : ToldFiles) (base : Base) (g : GroupDef) (i k : ℕ) (old mid new : DeviceTraces)
    → IsBaseFile (told name) base → IsPlaced base.groups.items group_name calc_name i k → g ≡ get_or base.groups.items i g
    → AllStaySame base.tags.items old mid → AreOtherTagsSame base.tags.items old mid
    → During (group_trace_at mid g) (group_trace_at new g) (BookStaysSame (group_definition_text g) (group_parts_of g) (group_trace_at mid g))
    → ((n : List ℕ) → n ≢ group.device_name g.name → new n ≡ mid n) → HaveStayed name group_name calc_name told old new
stayed_at name group_name calc_name told base g i k old mid new read placed is =
    have_stayed name group_name calc_name told base g i k old mid new read
    (named_group base.groups.items group_name calc_name i k g placed is)

-- what is said of the rows after the tags were opened is so of the device before
pub rows_before : (g : GroupDef) (k : ℕ) (recovered : List (List Rec)) (o p : Trace) (saved refreshed : List CalcValue) → p ≡ o
    → AreFrameRows g k recovered p saved refreshed → AreFrameRows g k recovered o saved refreshed
rows_before g k recovered o p saved refreshed same rows = subst (λ x. AreFrameRows g k recovered x saved refreshed) same rows

-- and of a refusal, where no fault was counted until then
pub refusal_before : (i : ℕ) (g : GroupDef) (recovered : List (List Rec)) (o p q : Trace) (before mid now : ℕ) (why : Status) → p ≡ o
    → (before < 2 ^ 64 → mid ≡ before) → IsFrameRowsRefusal i g recovered p q mid now why → IsFrameRowsRefusal i g recovered o q before now why
refusal_before i g recovered o p q before mid now why same first is = subst (λ x. IsFrameRowsRefusal i g recovered x q before now why) same (by is)
  where
    by : IsFrameRowsRefusal i g recovered p q mid now why → IsFrameRowsRefusal i g recovered p q before now why
    by (OfFault told rose) = OfFault told (λ small. subst (λ n. Rose n now) (first small) (rose (subst (λ n. n < 2 ^ 64) (sym (first small)) small)))
    by (OfDamage at byte told shows) = OfDamage at byte told shows
    by (OfVersion input found version told shows) = OfVersion input found version told shows
    by (OfWindows windows rows told shows) = OfWindows windows rows told shows
    by (OfCells number told stood over) = OfCells number told stood over
    by (OfCopies number told stood over) = OfCopies number told stood over
    by (OfMemory told) = OfMemory told

-- ---- faults

-- the refusal of a group is no fault of a file
pub rows_no_read : (i : ℕ) (g : GroupDef) (recovered : List (List Rec)) (o p : Trace) (before now : ℕ) (why : Status)
    → IsFrameRowsRefusal i g recovered o p before now why → (which : FileId) → why ≢ ReadFault which
rows_no_read i g recovered o p before now why (OfFault told rose) which same = cc
rows_no_read i g recovered o p before now why (OfDamage at byte told shows) which same = cc
rows_no_read i g recovered o p before now why (OfVersion input found version told shows) which same = cc
rows_no_read i g recovered o p before now why (OfWindows windows rows told shows) which same = cc
rows_no_read i g recovered o p before now why (OfCells number told is above) which same = cc
rows_no_read i g recovered o p before now why (OfCopies number told is above) which same = cc
rows_no_read i g recovered o p before now why (OfMemory told) which same = cc

-- a fault of a group's device is one of a device
pub of_group : {T : Type 0} (r : Result T Status) (before now : ℕ) → groups.CountsStore r before now → CountsDevices r before now
of_group (Ok x) before now same = same
of_group (Err why) before now (inl same) = inl same
of_group (Err why) before now (inr fault) = inr (Group fault.0, fault.1, fault.2)
