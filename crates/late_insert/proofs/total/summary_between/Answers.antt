use Rattle.std.proofs.Common.{slice_range, ◌∙◌, rules}
use Rattle.std.specs.Prelude.{FitsSigned}
use Rattle.std.specs.Int.{w64, w128}
use Rattle.std.proofs.lemmas.Int.{to_z-of_z}
use Rattle.late_insert.proofs.Summing.{points_in}
use Rattle.late_insert.proofs.Summaries.{summary_made, first_between, last_between}
use Rattle.late_insert.proofs.total.summary_between.Goals as goal

pub returns : goal.returns
returns c =
    let f = c.args.frame.now in
    let start = c.args.start in
    let end = c.args.end in
    let line : FitsSigned w128 c.area_between.result = search rules in
    let stair : FitsSigned w128 c.area_between-2.result = search rules in
    let low : FitsSigned w64 c.extreme_between.result = search rules in
    let high : FitsSigned w64 c.extreme_between-2.result = search rules in
    summary_made (slice_range (points_in f) start end) _ _ _ _ _ _
    (first_between f start end c.requires.some c.requires.within _ c.point_at.ensures.value)
    (last_between f start end c.requires.some c.requires.within _ c.point_at-2.ensures.value)
    (to_z-of_z w128 _ line ∙ c.area_between.ensures)
    (to_z-of_z w128 _ stair ∙ c.area_between-2.ensures)
    (to_z-of_z w64 _ low ∙ c.extreme_between.ensures)
    (to_z-of_z w64 _ high ∙ c.extreme_between-2.ensures)
