use Rattle.std.proofs.Common.{◌∙◌}
use Rattle.late_insert.proofs.Storing.{records-lower, recorded-lower, records-upper, recorded-upper}
use Rattle.late_insert.proofs.page.cut.Goals as goal

pub refresh-upper_stair-requires-clause-recorded : goal.refresh-upper_stair-requires-clause-recorded
refresh-upper_stair-requires-clause-recorded c =
    recorded-upper c.args.frame.now c.requires.page.recorded c.requires.full c.rotate.new.xs c.rotate-2.new.xs
    c.rotate.ensures.len c.rotate-2.ensures.len
    c.rotate.ensures.front c.rotate-2.ensures.front

pub refresh-lower_stair-requires-clause-recorded : goal.refresh-lower_stair-requires-clause-recorded
refresh-lower_stair-requires-clause-recorded c = recorded-lower c.args.frame.now c.requires.page.recorded
    c.requires.full

pub returns-clause-lower_records : goal.returns-clause-lower_records
returns-clause-lower_records c =
    c.refresh-lower_stair.ensures.records ∙ records-lower c.args.frame.now c.requires.page.recorded
    c.requires.full

pub returns-clause-upper_records : goal.returns-clause-upper_records
returns-clause-upper_records c =
    c.refresh-upper_stair.ensures.records ∙ records-upper c.args.frame.now c.requires.page.recorded
    c.requires.full c.rotate.new.xs c.rotate-2.new.xs
    c.rotate.ensures.len c.rotate-2.ensures.len c.rotate.ensures.front c.rotate-2.ensures.front
