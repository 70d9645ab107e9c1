-- The base of a drill.
use Rattle.std.specs.Prelude.{◌≡◌, ℕ, false, List, [], ◌∷◌, ◌++◌, map, codes}
use Rattle.std.specs.Fmt.{decimal}
use Rattle.std.specs.List.{range_with_len}
use Rattle.trend_num.specs.{TagDef, Tuning}
use Rattle.tag_base.specs.{GroupDef, AreCalcs, CalcForm}

-- the tuning of each tag
abbrev pub drill_tuning : Tuning
drill_tuning = record { exc_dev = 3; exc_max = 60000; comp_dev = 8; comp_min = 0; comp_max = 600000 }

-- the tag at a place: its name is `D` and the numeral of the place
abbrev pub drill_tag : ℕ → TagDef
drill_tag place = record { name = codes "D" ++ decimal place; tuning = drill_tuning; step = false }

-- so many tags, and their names
abbrev pub drill_tags : ℕ → List TagDef
drill_tags tags = map drill_tag (range_with_len 0 tags)

abbrev pub drill_names : ℕ → List (List ℕ)
drill_names tags = map (λ tag. tag.name) (drill_tags tags)

-- the calculations over them, as texts
abbrev pub drill_calcs : List CalcForm
drill_calcs =
    record { name = codes "mean"; formula = codes "avg('D0')" }
    ∷ record { name = codes "spread"; formula = codes "high('D0') - low('D0')" } ∷ []

-- the group of so many tags: each is an input, in order
pub record IsDrillGroup (tags : ℕ) (g : GroupDef) : Type 0 where
  pub name : g.name ≡ codes "all"
  pub inputs : g.inputs.items ≡ range_with_len 0 tags
  pub start : g.start ≡ 0
  pub period : g.period ≡ 500
  pub calcs : AreCalcs (drill_names tags) drill_calcs g.calcs
