use Rattle.value_rows.proofs.PlainRow.{plain_first}
use Rattle.value_rows.proofs.plain.plain_row.Goals as goal

pub returns-clause-first : goal.returns-clause-first
returns-clause-first c =
    plain_first c.args.tags.now c.args.text.now c.in_ok-name.name.now c.in_ok-name.rest.now
    c.in_ok-point.after.now c.in_ok-tag.tag c.in_ok-point.point c.in_ok-name.ensures c.in_ok-tag.ensures.name c.in_ok-tag.ensures.place c.in_ok-point.ensures.point
