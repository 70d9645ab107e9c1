use Rattle.std.proofs.Common.{◌≡◌, IfOk, refl, subst, arith}
use Rattle.std.specs.List.{range_with_len}
use Rattle.std.proofs.lemmas.Iterator.{YieldsList-from_range, items_from_collect}
use Rattle.run_command.proofs.drill_plant.places.Goals as goal

pub returns : goal.returns
returns c =
    let made = items_from_collect c.collect.result c.collect.ensures.ran
    (YieldsList-from_range 0 c.args.inputs c.args.inputs refl (omega arith)) in
    subst (λ r. IfOk r (λ w. w.items ≡ range_with_len 0 c.args.inputs)) c.in_ok-collect.was made
