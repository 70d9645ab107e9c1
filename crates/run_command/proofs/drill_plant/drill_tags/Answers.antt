use Rattle.std.proofs.Common.{◌≡◌, ◌∙◌, ap, arith}
use Rattle.run_command.specs.{drill_tag, drill_tags}
use Rattle.run_command.proofs.DrillGrowing.{one_place_more}
use Rattle.run_command.proofs.drill_plant.drill_tags.Goals as goal

pub loop-place-preserved : goal.loop-place-preserved
loop-place-preserved c =
    one_place_more drill_tag c.loop-place.place _ _ _ c.loop-place.invariant c.in_ok-def.ensures c.in_ok-push.ensures.items

pub returns : goal.returns
returns c =
    let done : c.loop-place.place ≡ c.args.tags = omega arith in
    c.loop-place.invariant ∙ ap drill_tags done
