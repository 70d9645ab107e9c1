use Rattle.std.proofs.Common.{◌≤◌, true, false, sym, subst, ◌∙◌, rules}
use Rattle.std.specs.Prelude.{FitsSigned, unsigned_abs}
use Rattle.std.specs.Int.{w64, w128}
use Rattle.std.proofs.lemmas.Int.{to_z-of_z}
use Rattle.late_insert.specs.{page_most}
use Rattle.late_insert.proofs.Summing.{points_in}
use Rattle.late_insert.proofs.Summaries.{frame_small, summary_made, first_in, last_in}
use Rattle.late_insert.proofs.total.summary_in.Goals as goal

pub returns-clause-value : goal.returns-clause-value
returns-clause-value c =
    let f = c.args.frame.now in
    let line : FitsSigned w128 f.area = search rules in
    let stair : FitsSigned w128 c.args.stair = search rules in
    let low : FitsSigned w64 f.low = search rules in
    let high : FitsSigned w64 f.high = search rules in
    summary_made (points_in f) _ _ _ _ _ _
    (first_in f _ c.requires.some c.point_at.ensures.value)
    (last_in f _ c.requires.some c.point_at-2.ensures.value)
    (to_z-of_z w128 _ line ∙ c.requires.page.area)
    (to_z-of_z w128 _ stair ∙ c.requires.stair)
    (to_z-of_z w64 _ low ∙ c.requires.page.low)
    (to_z-of_z w64 _ high ∙ c.requires.page.high)

pub returns-clause-small : goal.returns-clause-small
returns-clause-small c =
    let f = c.args.frame.now in
    let line : FitsSigned w128 f.area = search rules in
    let stair : FitsSigned w128 c.args.stair = search rules in
    record {
      first = c.point_at.ensures.range;
      last = c.point_at-2.ensures.range;
      line = subst (λ z. unsigned_abs z ≤ page_most) (sym (to_z-of_z w128 _ line ∙ c.requires.page.area)) (frame_small false f c.requires.page.recorded);
      stair = subst (λ z. unsigned_abs z ≤ page_most) (sym (to_z-of_z w128 _ stair ∙ c.requires.stair)) (frame_small true f c.requires.page.recorded);
    }
