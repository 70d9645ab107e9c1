-- What is needed to give a plant's devices back.
use Rattle.std.specs.Prelude.{◌≡◌, ◌≢◌, ◌≤◌, ℕ, Bool, List, [], length, All, AllPairs, string_bytes, vec_capacity}
use Rattle.trend_num.specs.{IsName}
use Rattle.tag_base.specs.{Base, GroupDef}
use Rattle.plant_store.specs.CellNames.{AreApart, HasPlaces, device_names_of, texts}
use Rattle.plant_store.specs.Groups.{AreNamesOf}
use Rattle.plant_store.specs.BookSteps.{HavePlaces}
use Rattle.plant_store.specs.declared.shelf.Shelf.{Shelf}

-- All names of devices are different, those of tags and those of groups. The lists of histories are empty, with room
-- for one history for each name.
pub record IsShelf (shelf : Shelf) : Type 0 where
  pub apart : AreApart (texts shelf.tag_names.items)
  pub groups_apart : AllPairs (λ a b. string_bytes a ≢ string_bytes b) shelf.group_names.items
  pub kinds_apart : All (λ tag. All (λ group. tag ≢ group) (texts shelf.group_names.items)) (texts shelf.tag_names.items)
  pub no_tags : shelf.tags.items ≡ []
  pub no_groups : shelf.groups.items ≡ []
  pub tag_room : length shelf.tag_names.items ≤ vec_capacity shelf.tags
  pub group_room : length shelf.group_names.items ≤ vec_capacity shelf.groups

-- the names are those of the devices of the base's tags and groups, in order
pub record IsShelfFor (base : Base) (shelf : Shelf) : Type 0 where
  pub tag_names_are : texts shelf.tag_names.items ≡ device_names_of base.tags.items
  pub group_names_are : AreNamesOf base.groups.items shelf.group_names.items
  pub groups_named : All (λ (g : GroupDef). IsName g.name) base.groups.items
  pub as_many_tags : length shelf.tag_names.items ≡ length base.tags.items
  pub as_many_groups : length shelf.group_names.items ≡ length base.groups.items
  pub is_shelf : IsShelf shelf

-- the store has a place for the device of each of the names
pub record HasPlacesOf (shelf : Shelf) (has_place : List ℕ → Bool) : Type 0 where
  pub for_tags : HasPlaces has_place (texts shelf.tag_names.items)
  pub for_groups : HavePlaces (length shelf.group_names.items) shelf.group_names.items has_place
