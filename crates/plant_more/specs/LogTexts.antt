-- The text of a plant, by which a device is recognized as its log.
use Rattle.std.specs.Prelude.{ℕ, List, [], ◌∷◌, ◌++◌, flat_map}
use Rattle.trend_num.specs.{TagDef}

-- the names of the tags, in base order, with a line feed between two
abbrev pub plant_text : List TagDef → List ℕ
plant_text [] = []
plant_text (def ∷ defs) = def.name ++ flat_map (λ d. 10 ∷ d.name) defs
