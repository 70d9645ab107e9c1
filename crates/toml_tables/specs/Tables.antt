-- Which keys a table of a TOML document has, and which values they have.
use Rattle.std.specs.Prelude.{ℕ, Bool, true, if◌then◌else◌, ◌&&◌, ◌||◌, ◌+◌, List, [], ◌∷◌, ◌++◌, Option, None, Some, is_some, option_and_then, bytes_eq, nat_le}
use Rattle.std.specs.List.{list_any, list_all}
use Rattle.std.specs.Str.{is_utf8}
use Rattle.toml.specs.Data.{Items, Members, no_items, item, no_members, member, get_member, as_str, as_array}
use Rattle.toml.specs.Parse.{parse_document}

-- the document that bytes spell, if they spell one
abbrev pub document : List ℕ → Option Members
document bytes = if is_utf8 bytes then parse_document bytes else None

-- ---- keys

abbrev pub is_key_among : List (List ℕ) → List ℕ → Bool
is_key_among keys key = list_any (λ k. bytes_eq k key) keys

-- every key passes a test
abbrev pub all_keys : (List ℕ → Bool) → Members → Bool
all_keys test no_members = true
all_keys test (member key d ms) = test key && all_keys test ms

abbrev pub has_key : Members → List ℕ → Bool
has_key ms key = is_some (get_member key ms)

-- each of the needed keys is there, and besides them only keys among the others
abbrev pub has_keys : List (List ℕ) → List (List ℕ) → Members → Bool
has_keys needed others ms =
    list_all (has_key ms) needed && all_keys (λ key. is_key_among needed key || is_key_among others key) ms

-- ---- values

-- the text at a key, if the value there is a text
abbrev pub string_at : List ℕ → Members → Option (List ℕ)
string_at key ms = option_and_then as_str (get_member key ms)

-- the array at a key, if the value there is an array
abbrev pub array_at : List ℕ → Members → Option Items
array_at key ms = option_and_then as_array (get_member key ms)

abbrev pub item_count : Items → ℕ
item_count no_items = 0
item_count (item d ds) = item_count ds + 1

-- there is at least one item, and at most so many
abbrev pub is_count : ℕ → Items → Bool
is_count most items = nat_le 1 (item_count items) && nat_le (item_count items) most

-- ---- places

-- the places that items name after some earlier places; each item has to be a text
abbrev pub places_after : {A : Type 0} → (List A → List ℕ → Option A) → List A → Items → Option (List A)
places_after place_of earlier no_items = Some earlier
places_after place_of earlier (item d ds) =
    option_and_then (λ place. places_after place_of (earlier ++ place ∷ []) ds)
    (option_and_then (place_of earlier) (as_str d))

abbrev pub places_of : {A : Type 0} → (List A → List ℕ → Option A) → ℕ → Items → Option (List A)
places_of place_of most items = if is_count most items then places_after place_of [] items else None

-- the places that the array at a key names: at least one, and at most so many
abbrev pub places_at : {A : Type 0} → (List A → List ℕ → Option A) → ℕ → List ℕ → Members → Option (List A)
places_at place_of most key ms = option_and_then (places_of place_of most) (array_at key ms)
