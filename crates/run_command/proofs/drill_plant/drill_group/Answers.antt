use Rattle.std.proofs.Common.{◌≡◌, true, codes, map, sym, subst}
use Rattle.calc_check.specs.Group.{is_among}
use Rattle.run_command.proofs.DrillFormulas.{first_named}
use Rattle.run_command.proofs.drill_plant.drill_group.Goals as goal

pub checked-requires : goal.checked-requires
checked-requires c = subst (λ defs. is_among (codes "D0") (map (λ tag. tag.name) defs) ≡ true) (sym c.requires.tags)
    (first_named c.args.tags c.requires.some)
