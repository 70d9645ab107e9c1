-- The contents of tags.
use Rattle.std.specs.Prelude.{◌≡◌, List, map}
use Rattle.trend_model.specs.{ContentState, listed}
use Rattle.tag_core.specs.Core.{Core}

-- these are the contents of the records of these tags
abbrev pub AreContentsOf : List Core → List ContentState → Type 0
AreContentsOf cores contents = map (λ c. c.records) contents ≡ map (λ c. listed c.state.records) cores
