-- The devices of tags and those of groups.
use Rattle.std.proofs.Common.{◌≡◌, ◌≢◌, ◌≤◌, ℕ, List, [], ◌∷◌, ◌++◌, length, get_or, codes, sym, ◌∙◌, subst, arith}
use Rattle.std.specs.Prelude.{All, IfSome, String, vec_capacity}
use Rattle.std.specs.declared.alloc.Global.{Global}
use Rattle.std.proofs.lemmas.List.{append_assoc, same_from_push}
use Rattle.std.proofs.lemmas.List.Elements.{All-map}
use Rattle.trend_num.specs.{IsName, TagDef}
use Rattle.tag_base.specs.{Base, GroupDef}
use Rattle.disk_model.specs.{Trace}
use Rattle.branded_disk.specs.{Past}
use Rattle.plant_store.specs.Tags as tag
use Rattle.tag_cell.specs.{device_name}
use Rattle.plant_store.specs.Groups as group
use Rattle.plant_store.specs.Groups.{DeviceTraces, group_trace_at}
use Rattle.plant_store.specs.{AreApart, device_names_of, texts, Shelf, IsShelfFor}
use Rattle.plant_store.proofs.CellLabels.{as_many_names}
use Rattle.plant_store.proofs.BookNames.{as_many, names_differ}

-- no tag's device is called as a group's
pub names_apart : (t g : List ℕ) → device_name t ≢ group.device_name g
names_apart t g same =
    let of_tag : (t ++ codes ".ta") ++ 103 ∷ [] ≡ device_name t = append_assoc t (codes ".ta") (103 ∷ []) in
    let of_group : (g ++ codes ".gr") ++ 112 ∷ [] ≡ group.device_name g = append_assoc g (codes ".gr") (112 ∷ []) in
    let ends = same_from_push (t ++ codes ".ta") (g ++ codes ".gr") 103 112 (of_tag ∙ (same ∙ sym of_group)) in
    absurd (omega (arith, ends.1))

-- so the devices of groups are as they were where those of tags alone have changed
pub groups_same : (tags : List TagDef) (old new : DeviceTraces) → tag.AreOtherTagsSame tags old new → (g : GroupDef)
    → group_trace_at new g ≡ group_trace_at old g
groups_same tags old new others g =
    others (group.device_name g.name) (λ k d below same. names_apart (get_or tags k d).name g.name (sym same))

-- so they are what they were when the command began, if that is told
pub groups_unused : (before : Past) (tags : List TagDef) (gs : List GroupDef) (old new : DeviceTraces) → tag.AreOtherTagsSame tags old new
    → group.AreGroupsUnused before gs old → group.AreGroupsUnused before gs new
groups_unused before tags gs old new others unused k g below =
    let d = get_or gs k g in
    subst (λ (x : Trace). IfSome (before (group.device_name d.name)) (λ t. x ≡ t)) (sym (groups_same tags old new others d)) (unused k g below)

-- and those of tags where those of groups alone have
pub tags_same : (gs : List GroupDef) (old new : DeviceTraces) → group.AreOtherGroupsSame gs old new → (t : TagDef)
    → tag.tag_trace_of new t ≡ tag.tag_trace_of old t
tags_same gs old new others t =
    others (device_name t.name) (λ k d below. names_apart t.name (get_or gs k d).name)

-- the texts of names of the two kinds are apart
pub texts_apart : (tags : List TagDef) (gs : List GroupDef) (tag_names group_names : List (String Global))
    → texts tag_names ≡ device_names_of tags → group.AreNamesOf gs group_names
    → All (λ t. All (λ g. t ≢ g) (texts group_names)) (texts tag_names)
texts_apart tags gs tag_names group_names tags_are groups_are =
    subst (λ ns. All (λ t. All (λ g. t ≢ g) (texts group_names)) ns) (sym tags_are)
    (All-map (λ t. All (λ g. t ≢ g) (texts group_names)) (λ (def : TagDef). device_name def.name) tags (λ k d below.
    subst (λ ns. All (λ g. device_name (get_or tags k d).name ≢ g) ns) (sym groups_are)
    (All-map (λ g. device_name (get_or tags k d).name ≢ g) (λ (g : GroupDef). group.device_name g.name) gs (λ j e within.
    names_apart (get_or tags k d).name (get_or gs j e).name))))

-- a shelf with these names, and with room for as many histories, is that of the base
pub shelf_is : (base : Base) (shelf : Shelf) (tags groups : ℕ) → group.AreDistinct base.groups.items
    → texts shelf.tag_names.items ≡ device_names_of base.tags.items → AreApart (texts shelf.tag_names.items)
    → group.AreNamesOf base.groups.items shelf.group_names.items → All (λ (g : GroupDef). IsName g.name) base.groups.items
    → shelf.tags.items ≡ [] → shelf.groups.items ≡ []
    → tags ≡ length base.tags.items → groups ≡ length base.groups.items → tags ≤ vec_capacity shelf.tags
    → groups ≤ vec_capacity shelf.groups → IsShelfFor base shelf
shelf_is base shelf tags groups distinct tags_are apart groups_are named no_tags no_groups many_tags many_groups tag_room group_room =
    let tag_count = as_many_names shelf.tag_names.items base.tags.items tags_are in
    let group_count = as_many base.groups.items shelf.group_names.items groups_are in
    record {
      tag_names_are = tags_are;
      group_names_are = groups_are;
      groups_named = named;
      as_many_tags = tag_count;
      as_many_groups = group_count;
      is_shelf = record {
        apart = apart;
        groups_apart = names_differ base.groups.items shelf.group_names.items groups_are distinct;
        kinds_apart = texts_apart base.tags.items base.groups.items shelf.tag_names.items shelf.group_names.items tags_are groups_are;
        no_tags = no_tags;
        no_groups = no_groups;
        tag_room = omega (arith, tag_count, many_tags, tag_room);
        group_room = omega (arith, group_count, many_groups, group_room);
      };
    }
