-- The names, the numbers and the tables at the keys of a table.
use Rattle.std.specs.Prelude.{ℕ, ℤ, pos, negsuc, Bool, if◌then◌else◌, ◌&&◌, List, [], ◌∷◌, ◌++◌, length, nat_le, Option, None, Some, option_and_then}
use Rattle.std.specs.List.{list_all}
use Rattle.toml.specs.Data.{Items, Members, no_items, item, get_member, as_integer, as_table}
use Rattle.toml_tables.specs.{has_key, string_at, array_at}
use Rattle.trend_num.specs.{is_name_byte}

-- whether bytes are a name: 1 to 64 bytes, each of which a name may have
abbrev pub is_name : List ℕ → Bool
is_name bytes = nat_le 1 (length bytes) && nat_le (length bytes) 64 && list_all is_name_byte bytes

-- the name at a key, if there is a text that is a name
abbrev pub name_at : List ℕ → Members → Option (List ℕ)
name_at key ms = option_and_then (λ text. if is_name text then Some text else None) (string_at key ms)

-- a number that is not below the least nor above the most
abbrev pub within : ℕ → ℕ → ℤ → Option ℕ
within least most (pos n) = if nat_le least n && nat_le n most then Some n else None
within least most (negsuc n) = None

-- the number at a key, if it is a whole number from the least to the most, both included
abbrev pub number_at : List ℕ → ℕ → ℕ → Members → Option ℕ
number_at key least most ms =
    option_and_then (within least most) (option_and_then as_integer (get_member key ms))

-- some tables, and after them the items; each item has to be a table
abbrev pub tables_after : List Members → Items → Option (List Members)
tables_after earlier no_items = Some earlier
tables_after earlier (item d ds) = option_and_then (λ ms. tables_after (earlier ++ ms ∷ []) ds) (as_table d)

-- the tables of the array at a key, if each of its items is a table
abbrev pub tables_at : List ℕ → Members → Option (List Members)
tables_at key ms = option_and_then (tables_after []) (array_at key ms)

-- the same, with an empty list if the key is missing
abbrev pub tables_if_there : List ℕ → Members → Option (List Members)
tables_if_there key ms = if has_key ms key then tables_at key ms else Some []
