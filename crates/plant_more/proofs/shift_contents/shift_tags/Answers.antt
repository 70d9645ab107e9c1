use Rattle.std.proofs.Common.{◌<◌, length, refl, subst, sym, take, get_or, arith, ◌+◌}
use Rattle.std.proofs.lemmas.Option.{slice_get_read}
use Rattle.plant_more.specs.{AreShiftTags}
use Rattle.plant_more.proofs.ShiftTags.{tags_more}
use Rattle.plant_more.proofs.shift_contents.shift_tags.Goals as goal

pub loop-place-preserved : goal.loop-place-preserved
loop-place-preserved c =
    let defs = c.args.defs.now in
    let cores = c.args.cores.now in
    let places = c.args.places.now in
    let i = c.loop-place.place-index in
    let place = get_or places i 0 in
    let below : place < length defs = c.requires.of_defs i 0 c.loop-place-test.true in
    let there : place < length cores = omega (arith, below, c.requires.as_many) in
    subst (λ l. AreShiftTags defs cores (take (i + 1) places) l)
    (sym c.in_ok-push.ensures.items)
    (tags_more defs cores places c.loop-place.tags.items i 0 c.in_ok-tag.tag c.loop-place-test.true c.loop-place.invariant
    (record {
      def = c.index-defs-place.result;
      core = c.index-cores-place.result;
      is_def = slice_get_read defs (length defs) place c.index-defs-place.result refl below c.index-defs-place.is;
      is_core = slice_get_read cores (length cores) place c.index-cores-place.result refl there c.index-cores-place.is;
      name = c.in_ok-tag.ensures.name;
      step = c.in_ok-tag.ensures.step;
      held = c.in_ok-tag.ensures.held;
      content = c.in_ok-tag.ensures.content;
    }))
