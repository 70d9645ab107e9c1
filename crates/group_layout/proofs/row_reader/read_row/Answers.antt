use Rattle.std.proofs.Common.{◌≤◌, ◌+◌, All, true, length, sym, subst, arith, lit<}
use Rattle.archive_file.specs.{Keeps, Spells}
use Rattle.archive_file.proofs.FieldLaws.{field_of}
use Rattle.group_layout.specs.{row_fields, row_image}
use Rattle.group_layout.proofs.RowLaws.{row_found, row_ordered}
use Rattle.group_layout.proofs.row_reader.read_row.Goals as goal

pub returns-clause-row : goal.returns-clause-row
returns-clause-row g c =
    let a = c.args in
    row_found g.C.Rest.rest a.calcs a.windows a.at a.last c.row_at-row.result c.in_ok-check_row.ensures.kept

pub returns-clause-order : goal.returns-clause-order
returns-clause-order g c =
    let a = c.args in
    row_ordered g.C.Rest.rest a.calcs a.windows a.at a.last c.row_at-row.result c.in_ok-check_row.ensures.kept

pub returns-clause-spelled : goal.returns-clause-spelled
returns-clause-spelled g c =
    let last : c.args.at + 9 + 8 ≤ length g.C.Rest.rest = (c.in_ok-check_row.ensures.kept 3 (field_of 0 0 true) (lit< tt)).there in
    let there : c.args.at + 17 ≤ length g.C.Rest.rest = omega (arith, last) in
    subst (λ r. Spells g.C.Rest.rest c.args.at (row_image r) (c.args.at + 17)) (sym c.row_at-row.ensures.value)
    (c.row_at-row.ensures.spelled there)

pub returns-clause-kept : goal.returns-clause-kept
returns-clause-kept g c =
    let a = c.args in
    subst (λ r. All (Keeps g.C.Rest.rest) (row_fields a.calcs a.windows a.last r a.at)) c.row_at-row.ensures.value
    c.in_ok-check_row.ensures.kept
