use Rattle.std.proofs.Common.{get_or, sym, ap}
use Rattle.sheet_law.specs.{points_in}
use Rattle.calc_eval.proofs.Growth.{within_defs, eval_value}
use Rattle.calc_eval.proofs.evaluation.eval.Goals as goal

pub returns-clause-value : goal.returns-clause-value
returns-clause-value g c =
    let checked = c.args.checked.now in
    let calcs = c.defs-calcs.result.now in
    let within = within_defs calcs checked.calcs c.args.index c.defs-calcs.ensures.calcs c.requires.index in
    eval_value checked (points_in c.args.contents.now) c.args.from c.args.to c.inputs-inputs.result.now calcs
    c.args.lower.now c.args.index (get_or calcs c.args.index c.index-calcs-index.result) c.value.result
    c.inputs-inputs.ensures c.defs-calcs.ensures.calcs within
    (ap (get_or calcs c.args.index) (sym c.index-calcs-index.is))
    c.requires.lower c.value.ensures
