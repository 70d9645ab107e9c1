-- The lines of opened tags.
use Rattle.std.specs.Prelude.{ℕ, List}
use Rattle.std.specs.List.{flat_map, zip}
use Rattle.trend_num.specs.{TagDef}
use Rattle.tag_core.specs.Core.{Core}
use Rattle.trend_report.specs.Lines.{tag_line_of, tag_text}

-- the line of a tag
abbrev pub core_text : TagDef → Core → List ℕ
core_text def core = tag_text (tag_line_of def.name core.state.records core.state.summary)

-- a line for each tag
abbrev pub check_text : List TagDef → List Core → List ℕ
check_text tags cores = flat_map (λ p. core_text p.0 p.1) (zip tags cores)
