use Rattle.std.proofs.Common.{sym, subst, ◌∙◌, ap}
use Rattle.std.proofs.lemmas.List.{take_all}
use Rattle.plant_store.specs.{AreApart, device_names_of}
use Rattle.plant_store.proofs.CellLabels.{apart_names}
use Rattle.plant_store.proofs.cell_naming.tag_device_names.Goals as goal

pub returns-clause-apart : goal.returns-clause-apart
returns-clause-apart c = λ distinct.
    subst AreApart (sym (c.loop-def.invariant ∙ ap device_names_of (take_all c.loop-def.def-index c.args.tags.now c.loop-def-test.false)))
    (apart_names c.args.tags.now distinct)
