-- The names of the devices of tags.
use Rattle.std.specs.Prelude.{◌≢◌, ℕ, Bool, IsTrue, List, map, All, AllPairs, String, string_bytes}
use Rattle.std.specs.declared.alloc.Global.{Global}
use Rattle.trend_num.specs.{TagDef}
use Rattle.tag_cell.specs.{device_name}

-- the bytes of each of these texts
abbrev pub texts : List (String Global) → List (List ℕ)
texts names = map string_bytes names

-- the names of the devices of these tags, in order
abbrev pub device_names_of : List TagDef → List (List ℕ)
device_names_of tags = map (λ (def : TagDef). device_name def.name) tags

-- all names in the list are different
abbrev pub AreApart : List (List ℕ) → Type 0
AreApart names = AllPairs (λ a b. a ≢ b) names

-- the store has a place for the device of each of these names
abbrev pub HasPlaces : (List ℕ → Bool) → List (List ℕ) → Type 0
HasPlaces has_place names = All (λ name. IsTrue (has_place name)) names
