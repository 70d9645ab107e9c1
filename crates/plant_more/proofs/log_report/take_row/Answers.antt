use Rattle.std.proofs.Common.{◌≡◌, refl, rules}
use Rattle.plant_more.specs.{log_rows}
use Rattle.plant_more.proofs.LogReports.{few_before, row_fits, row_full, row_taken, taken_count}
use Rattle.plant_more.proofs.log_report.take_row.Goals as goal

pub take-requires-clause-countable : goal.take-requires-clause-countable
take-requires-clause-countable g c =
    taken_count c.args.tags.now (log_rows c.args.log.now) c.args.cores.now c.args.place c.args.row _ c.requires.rows c.requires.there
    c.requires.standing (few_before c.args.log.now c.args.place c.args.row c.requires.there)

pub returns-in-Ok-clause-standing : goal.returns-in-Ok-clause-standing
returns-in-Ok-clause-standing g c =
    row_taken c.args.tags.now (log_rows c.args.log.now) c.args.cores.now c.args.place c.args.row _ c.take.new.self c.requires.rows
    c.requires.there c.requires.standing c.take.ensures.one.step c.in-Ok.ensures.stands

pub returns-in-Err-clause-refused : goal.returns-in-Err-clause-refused
returns-in-Err-clause-refused g c =
    let same : c.from.result ≡ c.in-Err.full.records = search rules in
    row_full c.args.tags.now (log_rows c.args.log.now) c.args.cores.now c.args.place c.args.row _ c.from.result c.in-Err.full.records
    c.requires.rows c.requires.there c.requires.standing c.requires.room same c.in-Err.ensures.one.full_records
    (c.in-Err.ensures.one.full.0 refl)

pub returns-in-Ok-clause-room : goal.returns-in-Ok-clause-room
returns-in-Ok-clause-room g c =
    row_fits c.take.result _ c.args.tags.now (log_rows c.args.log.now) c.args.cores.now c.args.place c.args.row _ c.requires.rows
    c.requires.there c.requires.standing c.requires.room c.in-Ok.is c.take.ensures.one.full.1
