use Rattle.std.proofs.Common.{◌++◌, [], ◌∷◌, false, get_or, refl, ap, ◌∙◌, arith}
use Rattle.std.proofs.lemmas.List.{get_or_default}
use Rattle.event_frames.specs.{Frame, Edit}
use Rattle.event_frames.proofs.Differing.{missing_none, missing_step}
use Rattle.event_frames.proofs.difference.push_missing.Goals as goal

pub loop-frame-init : goal.loop-frame-init
loop-frame-init c = (
  record {
    added = missing_none c.args.edits.now.items c.args.came c.args.frames.now c.args.others.now;
    within = omega arith;
    low = λ j m d early late inside. absurd (omega arith);
  },
  omega arith,
  refl,
)

pub loop-frame-preserved : goal.loop-frame-preserved
loop-frame-preserved c =
    let frames = c.args.frames.now in
    let others = c.args.others.now in
    let i = c.loop-frame.frame-index in
    let f : Frame = get_or frames i (record { from = 0; upto = 0; last = false }) in
    let inside = c.loop-frame-test.true in
    let was = c.loop-frame.invariant in (
      missing_step c.args.edits.now.items c.loop-frame.edits.items c.push_if.new.edits.items c.args.came frames others i
          c.loop-frame.place c.place_from-place.result c.is_missing_at.result f c.requires.frames c.requires.others inside
          (get_or_default frames i f (record { from = 0; upto = 0; last = false }) inside) was.0 c.place_from-place.ensures.within
          c.place_from-place.ensures.before c.place_from-place.ensures.behind c.is_missing_at.ensures.missing c.is_missing_at.ensures.there
          (λ yes. c.push_if.ensures.told yes ∙ ap (λ (e : Edit). c.loop-frame.edits.items ++ e ∷ []) c.edit.ensures)
          c.push_if.ensures.same,
      omega (arith, was.1, c.push_if.ensures.more),
      c.push_if.ensures.capacity ∙ was.2,
    )
