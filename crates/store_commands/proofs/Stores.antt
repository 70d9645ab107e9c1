-- The devices of tags and of groups, which are opened one after the other.
use Rattle.std.proofs.Common.{◌≡◌, ◌≢◌, inr, ℕ, ◌+◌, ◌^◌, ◌<◌, List, [], ◌∷◌, ◌++◌, length, length-append, get_or, codes, refl, sym, ap, subst, ◌∙◌, arith}
use Rattle.std.proofs.lemmas.List.{get_or-append-add}
use Rattle.trend_num.specs.{Rec, TagDef}
use Rattle.tag_core.specs.Core.{Core}
use Rattle.disk_model.specs.{Rose}
use Rattle.group_layout.specs.{GainsGroupSync}
use Rattle.crash_recovery.specs.{StaysSame as TagStaysSame}
use Rattle.plant_status.specs.declared.status.Status.{Status}
use Rattle.tag_base.specs.{Base, GroupDef}
use Rattle.plant_files.specs.{ToldFiles, IsBaseFile}
use Rattle.plant_store.specs.Tags as tag
use Rattle.tag_cell.specs.{device_name}
use Rattle.plant_store.specs.Groups as group
use Rattle.plant_store.specs.Groups.{DeviceTraces, input_records_of, group_trace_at}
use Rattle.plant_store.specs.BookRefusals.{IsRefusal}
use Rattle.plant_store.proofs.BookDevices as book
use Rattle.store_commands.specs.{Rows}
use Rattle.store_commands.specs.Commands.{AreAllKept, AreOtherDevicesSame}
use Rattle.store_commands.specs.GroupRows.{AllGainSync, AreGroupsTold, IsGroupTold, IsGroupRowsRefusal, IsTooMuchAt, OfCells, OfCopies, OfOpening, OfWant}

-- no group's device is called as a tag's
pub names_apart : (g t : List ℕ) → group.device_name g ≢ device_name t
names_apart g t same =
    let many : length g ≡ length t =
    omega (arith, ap length same, length-append g (codes ".grp"), length-append t (codes ".tag")) in
    let of_group = get_or-append-add g (codes ".grp") 3 0 in
    let of_tag = get_or-append-add t (codes ".tag") 3 0 in
    let last : 112 ≡ 103 = sym of_group ∙ ap (λ l. get_or l (length g + 3) 0) same ∙ ap (λ n. get_or (t ++ codes ".tag") (n + 3) 0) many ∙ of_tag in
    absurd (omega (arith, last))

-- so the devices of groups are as they were where those of tags alone have changed
pub groups_same : (tags : List TagDef) (old new : DeviceTraces) → tag.AreOtherTagsSame tags old new → (g : GroupDef)
    → group_trace_at new g ≡ group_trace_at old g
groups_same tags old new others g =
    others (group.device_name g.name) (λ k d below. names_apart g.name (get_or tags k d).name)

-- and those of tags where those of groups alone have
pub tags_same : (gs : List GroupDef) (old new : DeviceTraces) → group.AreOtherGroupsSame gs old new → (t : TagDef)
    → tag.tag_trace_of new t ≡ tag.tag_trace_of old t
tags_same gs old new others t =
    others (device_name t.name) (λ k d below same. names_apart (get_or gs k d).name t.name (sym same))

-- ---- what is said of groups after the tags were opened is so of the devices before

module _ (gs : List GroupDef) (records : List (List Rec)) (old mid : DeviceTraces) (same : (g : GroupDef) → group_trace_at mid g ≡ group_trace_at old g) where
  pub told_before : (rows : List Rows) → AreGroupsTold gs records mid rows → AreGroupsTold gs records old rows
  told_before rows told = record {
    as_many = told.as_many;
    each = λ i g r below. subst (λ o. IsGroupTold (get_or gs i g) (input_records_of records (get_or gs i g)) o (get_or rows i r))
        (same (get_or gs i g)) (told.each i g r below);
  }

  -- what the opening of groups was refused with
  refusal_before : (before mid_count now : ℕ) (why : Status) → (before < 2 ^ 64 → mid_count ≡ before)
      → IsRefusal gs records mid mid_count now why → IsRefusal gs records old before now why
  refusal_before before count now why first refused =
      book.refusal_before gs records old mid same before now count now why
      (λ rose small. subst (λ n. Rose n now) (first small) (rose (subst (λ n. n < 2 ^ 64) (sym (first small)) small))) refused

  pub synced_before : (new : DeviceTraces) → AllGainSync gs mid new → AllGainSync gs old new
  synced_before new gain k d below =
      subst (λ o. GainsGroupSync (group.group_definition_text (get_or gs k d)) o (group_trace_at new (get_or gs k d))) (same (get_or gs k d))
      (gain k d below)

  much_before : (new : DeviceTraces) (i : ℕ) (P : GroupDef → List (List Rec) → Type 0) → IsTooMuchAt gs records mid new i P
      → IsTooMuchAt gs records old new i P
  much_before new i P at = record {
    g = at.g;
    openings = at.openings;
    there = at.there;
    is_group = at.is_group;
    opened = book.opened_before gs records old mid same (length gs) at.openings at.opened;
    front = at.front;
    over = at.over;
    synced = synced_before new at.synced;
  }

  pub rows_before : (new : DeviceTraces) (before mid_count now : ℕ) (why : Status) → (before < 2 ^ 64 → mid_count ≡ before)
      → IsGroupRowsRefusal gs records mid new mid_count now why → IsGroupRowsRefusal gs records old new before now why
  rows_before new before count now why first (OfOpening refused) = OfOpening (refusal_before before count now why first refused)
  rows_before new before count now why first (OfCells i number is at) = OfCells i number is (much_before new i _ at)
  rows_before new before count now why first (OfCopies i number is at) = OfCopies i number is (much_before new i _ at)
  rows_before new before count now why first (OfWant is) = OfWant is

  pub same_before : (new : DeviceTraces) → group.AllStaySame gs mid new → group.AllStaySame gs old new
  same_before new kept = book.same_before gs records old mid same new new (λ g. refl) kept

-- ---- what is said of tags before the groups were opened is so of the devices after

pub kept_after : (ts : List TagDef) (old mid new : DeviceTraces) → ((t : TagDef) → tag.tag_trace_of new t ≡ tag.tag_trace_of mid t)
    → tag.AllStaySame ts old mid → tag.AllStaySame ts old new
kept_after ts old mid new same kept k d below =
    subst (λ o. TagStaysSame (get_or ts k d) (tag.tag_trace_of old (get_or ts k d)) o) (sym (same (get_or ts k d))) (kept k d below)

pub left_after : (ts : List TagDef) (cores : List Core) (old mid new : DeviceTraces)
    → ((t : TagDef) → tag.tag_trace_of new t ≡ tag.tag_trace_of mid t) → tag.AreLeft ts old mid cores → tag.AreLeft ts old new cores
left_after [] [] old mid new same left = tt
left_after [] (c ∷ cs) old mid new same left = absurd left
left_after (t ∷ ts) [] old mid new same left = absurd left
left_after (t ∷ ts) (c ∷ cs) old mid new same left = (
  subst (λ o. tag.IsLeft t (tag.tag_trace_of old t) o c) (sym (same t)) left.0,
  left_after ts cs old mid new same left.1,
)

-- no device but theirs has changed
rest_same : (base : Base) (old mid new : DeviceTraces) → tag.AreOtherTagsSame base.tags.items old mid
    → group.AreOtherGroupsSame base.groups.items mid new → AreOtherDevicesSame base old new
rest_same base old mid new first second n no_tag no_group = second n no_group ∙ first n no_tag

-- first the tags are opened, and then the groups
pub all_kept : (name : List ℕ) (told : ToldFiles) (base : Base) (gs : List GroupDef) (old mid new : DeviceTraces) → gs ≡ base.groups.items
    → IsBaseFile (told name) base → tag.AllStaySame base.tags.items old mid → tag.AreOtherTagsSame base.tags.items old mid
    → group.AllStaySame gs mid new → group.AreOtherGroupsSame gs mid new → AreAllKept name told old new
all_kept name told base gs old mid new are read tags_stay first stay second =
    let others = subst (λ l. group.AreOtherGroupsSame l mid new) are second in
    inr (
      base,
      read,
      kept_after base.tags.items old mid new (tags_same base.groups.items mid new others) tags_stay,
      same_before base.groups.items [] old mid (groups_same base.tags.items old mid first) new
          (subst (λ l. group.AllStaySame l mid new) are stay),
      rest_same base old mid new first others,
    )
