-- The content of a tag, by its place.
use Rattle.std.proofs.Common.{◌≡◌, ℕ, ◌<◌, List, [], length, get_or, sym, ap, ◌∙◌, arith}
use Rattle.std.proofs.lemmas.List.{get_or-map, length-map}
use Rattle.trend_num.specs.{Rec}
use Rattle.trend_model.specs.{ContentState, listed}
use Rattle.tag_core.specs.Core.{Core}
use Rattle.store_commands.specs.{AreContentsOf}

-- there are as many
as_many : (cores : List Core) (contents : List ContentState) → AreContentsOf cores contents
    → length contents ≡ length cores
as_many cores contents are =
    let both = ap length are in
    omega (
      arith,
      length-map contents (λ (c : ContentState). c.records),
      length-map cores (λ (c : Core). listed c.state.records),
    )

-- the content at a tag's place is that of its records
pub content_there : (cores : List Core) (contents : List ContentState) (i : ℕ) (core : Core)
    (content : ContentState) → AreContentsOf cores contents → i < length cores → core ≡ get_or cores i core
    → content ≡ get_or contents i content → content.records ≡ listed core.state.records
content_there cores contents i core content are within there here =
    let of_core : Core → List Rec = λ c. listed c.state.records in
    let of_content : ContentState → List Rec = λ c. c.records in
    let many = as_many cores contents are in
    let inside : i < length contents = omega arith in
    ap of_content here
    ∙ (sym (get_or-map of_content contents i content [] inside)
    ∙ (ap (λ l. get_or l i []) are
    ∙ (get_or-map of_core cores i core [] within ∙ ap of_core (sym there))))
