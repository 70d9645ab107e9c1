use Rattle.std.proofs.Common.{◌≡◌, ◌≢◌, ◌∙◌, All, Some, ap, length, refl, subst, sym}
use Rattle.std.specs.Prelude.{slice_get}
use Rattle.std.proofs.lemmas.Option.{slice_get_read}
use Rattle.calc_check.specs.Group.{Calculation, names_of}
use Rattle.store_commands.specs.{NoCalculation}
use Rattle.store_commands.proofs.FramePlaces.{calc_named, no_calc}
use Rattle.store_commands.proofs.frame_names.place_in.Goals as goal

pub returns-in-Some-calc_place-clause-placed : goal.returns-in-Some-calc_place-clause-placed
returns-in-Some-calc_place-clause-placed c =
    let g = c.index-groups-group.result in (
      g,
      record {
        there = slice_get_read c.args.groups.now (length c.args.groups.now) c.in-Some.group g refl c.in-Some.ensures.there c.index-groups-group.is;
        name = ap (λ x. x.name) c.index-groups-group.is ∙ c.in-Some.ensures.named g ∙ c.as_bytes.ensures.value;
        calculates = subst (λ cs. slice_get (names_of cs) c.in-Some-calc_place.calc ≡ Some c.args.calc.now)
            (c.defs.ensures.calcs ∙ ap (λ x. x.calcs.calcs) (sym c.index-groups-group.is))
            (calc_named c.defs.result.now c.in-Some-calc_place.calc c.args.calc.now c.in-Some-calc_place.ensures.there
            (λ d. c.in-Some-calc_place.ensures.named d ∙ c.as_bytes-2.ensures.value));
      },
    )

pub returns-in-None-clause-refused : goal.returns-in-None-clause-refused
returns-in-None-clause-refused c =
    let g = c.index-groups-group.result in
    NoCalculation g refl (c.in-Some.group, c.in-Some.ensures.there, sym c.index-groups-group.is)
    (ap (λ x. x.name) c.index-groups-group.is ∙ c.in-Some.ensures.named g ∙ c.as_bytes.ensures.value)
    (subst (λ cs. All (λ (x : Calculation). x.name ≢ c.args.calc.now) cs)
    (c.defs.ensures.calcs ∙ ap (λ x. x.calcs.calcs) (sym c.index-groups-group.is))
    (no_calc c.defs.result.now c.args.calc.now (subst (λ n. All (λ d. d.name ≢ n) c.defs.result.now) c.as_bytes-2.ensures.value
    c.in-None.ensures.none)))
