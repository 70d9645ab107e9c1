-- How many items an array has.
use Rattle.std.proofs.Common.{◌≡◌, ◌+◌, List, [], ◌∷◌, length, refl, ap, ◌∙◌, add-one}
use Rattle.toml.specs.View.{items_view}
use Rattle.toml.specs.declared.value.Value.{Value}
use Rattle.toml_tables.specs.{item_count}

-- as many as values
pub count_of_items : (vs : List Value) → item_count (items_view vs) ≡ length vs
count_of_items [] = refl
count_of_items (v ∷ vs) = ap (λ n. n + 1) (count_of_items vs) ∙ add-one (length vs)
