use Rattle.std.proofs.Common.{◌≡◌, List, [], ◌∷◌, ◌++◌, map, ap, ◌∙◌}
use Rattle.calc_check.specs.{CalcDef}
use Rattle.calc_check.specs.Group.{calculation}
use Rattle.run_command.proofs.DrillFormulas.{mean_formula, mean_tree, no_fault, spread_formula, spread_tree, two_calcs}
use Rattle.run_command.proofs.drill_plant.calcs.Goals as goal

pub calc-requires-clause-formula : goal.calc-requires-clause-formula
calc-requires-clause-formula c = (mean_tree, mean_formula)

pub calc-requires-2-clause-formula : goal.calc-requires-2-clause-formula
calc-requires-2-clause-formula c = (spread_tree, spread_formula)

pub returns-clause-known : goal.returns-clause-known
returns-clause-known c names named =
    let mean = c.in_ok-mean in
    let spread = c.in_ok-spread in
    let items : c.push-2.new.self.items ≡ mean.mean ∷ spread.spread ∷ [] =
    c.in_ok-push-2.ensures.items ∙ ap (λ (ds : List CalcDef). ds ++ spread.spread ∷ [])
    (c.in_ok-push.ensures.items ∙ ap (λ (ds : List CalcDef). ds ++ mean.mean ∷ []) c.new-defs.ensures.items) in
    no_fault names (map calculation c.push-2.new.self.items) named
    (ap (map calculation) items
    ∙ two_calcs mean.mean spread.spread mean.ensures.name (mean.ensures.only mean_tree mean_formula)
    spread.ensures.name (spread.ensures.only spread_tree spread_formula))
