-- The keys of a table, as its map lists them.
use Rattle.std.proofs.Common.{◌≡◌, ℕ, Bool, ◌&&◌, List, [], ◌∷◌, String, Global, string_bytes, refl, ap}
use Rattle.std.specs.List.{list_all}
use Rattle.std.specs.Map.{keys_of}
use Rattle.toml.specs.View.{members_view}
use Rattle.toml.specs.declared.value.Value.{Value}
use Rattle.toml_tables.specs.{all_keys}

-- a test of each key of the entries is one of each key of the table
pub all_keys-view : (test : List ℕ → Bool) (es : List (String Global × Value))
    → list_all (λ k. test (string_bytes k)) (keys_of es) ≡ all_keys test (members_view es)
all_keys-view test [] = refl
all_keys-view test (e ∷ es) = ap (λ b. test (string_bytes e.0) && b) (all_keys-view test es)
