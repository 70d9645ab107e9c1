use Rattle.std.proofs.Common.{◌≡◌, ◌++◌, codes, rules, subst, sym}
use Rattle.std.specs.Fmt.{decimal}
use Rattle.trend_num.specs.{IsName}
use Rattle.run_command.proofs.DrillNaming.{place_named}
use Rattle.run_command.proofs.drill_plant.tag_name.Goals as goal

pub spelled-requires : goal.spelled-requires
spelled-requires c =
    let text : c.as_bytes.result.now ≡ codes "D" ++ decimal c.args.place = search rules in
    subst IsName (sym text) (place_named c.args.place c.ranges.place.fits)
