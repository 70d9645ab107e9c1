-- What the tables of tags say.
use Rattle.std.specs.Prelude.{ℕ, Bool, true, false, if◌then◌else◌, ◌&&◌, List, [], ◌∷◌, ◌++◌, length, position, codes, bytes_eq, Option, None, Some, is_some, is_none, option_map, option_and_then, Result, Ok}
use Rattle.toml.specs.Data.{Data, Members, get_member, as_str, as_bool}
use Rattle.trend_num.specs.{last_time, largest_value, Tuning, TagDef}
use Rattle.tag_base.specs.declared.refusal.TextNo.{TextNo}
use Rattle.tag_base.specs.Answers.{broken, where_held, where_given, after_step}
use Rattle.tag_base.specs.Tables.{name_at, number_at}
use Rattle.toml_tables.specs.{has_keys}

-- the keys that each tag has
abbrev pub tag_keys : List (List ℕ)
tag_keys = codes "name" ∷ codes "exc_dev" ∷ codes "exc_max" ∷
    codes "comp_dev" ∷ codes "comp_min" ∷ codes "comp_max" ∷ []

-- the keys that a tag may have
abbrev pub free_tag_keys : List (List ℕ)
free_tag_keys = codes "descriptor" ∷ codes "engunits" ∷ codes "step" ∷ []

-- whether a value is missing, or is a text
abbrev pub is_text_if_there : Option Data → Bool
is_text_if_there None = true
is_text_if_there (Some d) = is_some (as_str d)

-- whether a table has the keys of a tag, and its description and units are texts if it has them
abbrev pub has_tag_form : Members → Bool
has_tag_form ms = has_keys tag_keys free_tag_keys ms
    && is_text_if_there (get_member (codes "descriptor") ms)
    && is_text_if_there (get_member (codes "engunits") ms)

-- the tuning of a table, if its five numbers are whole numbers in their ranges
abbrev pub tuning_at : Members → Option Tuning
tuning_at ms =
    option_and_then (λ exc_dev. option_and_then (λ exc_max. option_and_then (λ comp_dev.
    option_and_then (λ comp_min.
    option_map (λ comp_max. record {
      exc_dev = exc_dev;
      exc_max = exc_max;
      comp_dev = comp_dev;
      comp_min = comp_min;
      comp_max = comp_max;
    })
    (number_at (codes "comp_max") 0 last_time ms)) (number_at (codes "comp_min") 0 last_time ms))
    (number_at (codes "comp_dev") 0 largest_value ms)) (number_at (codes "exc_max") 0 last_time ms))
    (number_at (codes "exc_dev") 0 largest_value ms)

-- whether it is a step tag; a missing value means false
abbrev pub step_of : Option Data → Option Bool
step_of None = Some false
step_of (Some d) = as_bool d

-- the place of the first tag with this name
abbrev pub tag_place : List TagDef → List ℕ → Option ℕ
tag_place tags name = position (λ t. bytes_eq t.name name) tags

-- the name of a table, if it is one and no earlier tag has it
abbrev pub new_tag_name : List TagDef → Members → Option (List ℕ)
new_tag_name earlier ms =
    option_and_then (λ name. if is_none (tag_place earlier name) then Some name else None)
    (name_at (codes "name") ms)

-- The tag of a table after some tags. Its rules, in their order: 3 for its keys, 4 for its name, 5 for its numbers and
-- for whether it is a step tag.
abbrev pub tag_of : List TagDef → Members → Result TagDef TextNo
tag_of earlier ms =
    where_held (has_tag_form ms) (broken 3 (length earlier))
    (where_given (new_tag_name earlier ms) (broken 4 (length earlier)) (λ name.
    where_given (tuning_at ms) (broken 5 (length earlier)) (λ tuning.
    where_given (step_of (get_member (codes "step") ms)) (broken 5 (length earlier)) (λ step.
    Ok (record { name = name; tuning = tuning; step = step })))))

-- the tags of tables, in order, after some tags
abbrev pub tags_after : List TagDef → List Members → Result (List TagDef) TextNo
tags_after earlier [] = Ok earlier
tags_after earlier (ms ∷ mss) = after_step (tag_of earlier ms) (λ tag. tags_after (earlier ++ tag ∷ []) mss)
