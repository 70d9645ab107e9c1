use Rattle.std.proofs.Common.{◌≡◌, sym, ◌∙◌, arith}
use Rattle.std.proofs.lemmas.Option.{same_Some}
use Rattle.sheet_law.specs.{complete_windows}
use Rattle.calc_refresh.specs.{lists_of, shape_fault, grid_of}
use Rattle.calc_refresh.proofs.Beginning.{few_by, shapes_hold, told_of}
use Rattle.calc_refresh.proofs.Refreshing.{long_vecs}
use Rattle.calc_refresh.proofs.saved.from_saved.Goals as goal
use Rattle.calc_refresh.proofs.saved.from_saved.Goals.{After-shape_fault}

-- what the code found of the rows is what is wrong with them
fault : (c : After-shape_fault)
    → c.shape_fault.result ≡ shape_fault
    (complete_windows (grid_of c.args.def.now.start c.args.def.now.period) (lists_of c.args.copies.items)) (lists_of c.args.rows.items)
fault c = grind arith

pub restored-requires-clause-shape : goal.restored-requires-clause-shape
restored-requires-clause-shape c =
    let rows = lists_of c.args.rows.items in
    let windows = complete_windows (grid_of c.args.def.now.start c.args.def.now.period) (lists_of c.args.copies.items) in
    let fault = fault (goal.at.restored-requires-clause-shape c).After-shape_fault in
    shapes_hold windows rows (sym fault ∙ c.in-None.is)

pub restored-requires-clause-few : goal.restored-requires-clause-few
restored-requires-clause-few c =
    let rows = lists_of c.args.rows.items in
    let windows = complete_windows (grid_of c.args.def.now.start c.args.def.now.period) (lists_of c.args.copies.items) in
    let fault = fault (goal.at.restored-requires-clause-few c).After-shape_fault in
    few_by c.args.rows.items windows _
    (omega (arith, c.args.rows.ok.0, c.requires.calcs, c.requires.group.some_calcs))
    (long_vecs c.args.rows.items windows (shapes_hold windows rows (sym fault ∙ c.in-None.is))) c.requires.short

pub returns-in-Some-clause-shape : goal.returns-in-Some-clause-shape
returns-in-Some-clause-shape c = grind (arith, fault, same_Some)

pub returns-in-Some-clause-fault : goal.returns-in-Some-clause-fault
returns-in-Some-clause-fault c = grind (arith, fault, told_of)

pub returns-in-Ok-clause-shape : goal.returns-in-Ok-clause-shape
returns-in-Ok-clause-shape c = grind (arith, fault)

pub returns-in-Err-clause-shape : goal.returns-in-Err-clause-shape
returns-in-Err-clause-shape c = grind (arith, fault)
