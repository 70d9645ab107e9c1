use Rattle.std.proofs.Common.{◌≡◌, ◌+ℤ◌, true, false, ap₂, ◌∙◌, rules}
use Rattle.std.specs.Prelude.{FitsSigned}
use Rattle.std.specs.Int.{w64, w128, int_min, int_max}
use Rattle.std.proofs.lemmas.Int.{to_z-of_z}
use mir.Val.{of_z, to_z}
use Rattle.trend_model.specs.{points_of, area}
use Rattle.late_insert.specs.{frame_records_in}
use Rattle.late_insert.proofs.Summing.{IsPushed, is_pushed, area_of_fits, area_pushed, area_pushed_fits, page_pushed, value_fits}
use Rattle.late_insert.proofs.page.append.Goals as goal
use Rattle.late_insert.proofs.page.append.Goals.{After-store_behind, After-piece-2}

-- the record is after the others
pushed : (c : After-store_behind) → IsPushed c.args.frame.now c.store_behind.new.frame c.args.rec c.point_at-last.result
pushed c = is_pushed _ c.store_behind.new.frame c.args.rec _ c.requires.page c.requires.some c.point_at-last.ensures.value
    c.store_behind.ensures.recorded c.store_behind.ensures.records c.store_behind.ensures.area c.store_behind.ensures.low c.store_behind.ensures.high

pub overflow_add-frame : goal.overflow_add-frame
overflow_add-frame c =
    let push = pushed (goal.at.overflow_add-frame c).After-store_behind in
    let line : FitsSigned w128 c.piece.result = search rules in
    rw (
      to_z-of_z w128 c.piece.result line,
      to_z-of_z w128 c.store_behind.new.frame.area
          (area_of_fits _ _ _ _ push false _ (push.area ∙ push.page.area)),
    )
    (area_pushed_fits _ _ _ _ push false c.store_behind.new.frame.area c.piece.result (push.area ∙ push.page.area)
    c.piece.ensures)

pub returns-clause-page : goal.returns-clause-page
returns-clause-page c =
    let push = pushed (goal.at.returns-clause-page c).After-store_behind in
    let line : FitsSigned w128 c.piece.result = search rules in
    let least : FitsSigned w64 c.min-frame.result = search rules in
    let greatest : FitsSigned w64 c.max-frame.result = search rules in
    let low : FitsSigned w64 c.store_behind.new.frame.low = search rules in
    let high : FitsSigned w64 c.store_behind.new.frame.high = search rules in
    let value = to_z-of_z w64 c.args.rec.point.v (value_fits c.args.rec.point c.requires.range) in
    rw (
      to_z-of_z w128 c.piece.result line,
      to_z-of_z w128 c.store_behind.new.frame.area (area_of_fits _ _ _ _ push false _ (push.area ∙ push.page.area)),
      to_z-of_z w128 _ (area_pushed_fits _ _ _ _ push false c.store_behind.new.frame.area c.piece.result
          (push.area ∙ push.page.area) c.piece.ensures),
      to_z-of_z w64 c.min-frame.result least,
      to_z-of_z w64 c.max-frame.result greatest,
    )
    (page_pushed _ _ _ _ push c.piece.result c.min-frame.result c.max-frame.result c.piece.ensures
    (c.min-frame.ensures.value ∙ ap₂ int_min (to_z-of_z w64 c.store_behind.new.frame.low low) value)
    (c.max-frame.ensures.value ∙ ap₂ int_max (to_z-of_z w64 c.store_behind.new.frame.high high) value))

-- the area under the stair with one piece more, and that it fits
stair_more : (c : After-piece-2) → (to_z w128 (of_z w128 c.args.stair) +ℤ to_z w128 (of_z w128 c.piece-2.result)
    ≡ area true (points_of (frame_records_in c.store_behind.new.frame)))
    × FitsSigned w128 (to_z w128 (of_z w128 c.args.stair) +ℤ to_z w128 (of_z w128 c.piece-2.result))
stair_more c =
    let push = is_pushed _ c.store_behind.new.frame c.args.rec _ c.requires.page c.requires.some c.point_at-last.ensures.value
    c.store_behind.ensures.recorded c.store_behind.ensures.records c.store_behind.ensures.area c.store_behind.ensures.low c.store_behind.ensures.high in
    let line : FitsSigned w128 c.piece-2.result = search rules in
    let fits = area_of_fits _ _ _ _ push true _ c.requires.stair in
    rw (to_z-of_z w128 c.piece-2.result line, to_z-of_z w128 c.args.stair fits) (
      area_pushed _ _ _ _ push true c.args.stair c.piece-2.result c.requires.stair c.piece-2.ensures,
      area_pushed_fits _ _ _ _ push true c.args.stair c.piece-2.result c.requires.stair c.piece-2.ensures,
    )

pub overflow_add-result : goal.overflow_add-result
overflow_add-result c = (stair_more (goal.at.overflow_add-result c).After-piece-2).1

pub returns-clause-stair : goal.returns-clause-stair
returns-clause-stair c =
    let more = stair_more (goal.at.returns-clause-stair c).After-piece-2 in to_z-of_z w128 _ more.1 ∙ more.0
