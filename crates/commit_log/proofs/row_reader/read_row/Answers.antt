use Rattle.std.proofs.Common.{◌≤◌, ◌+◌, All, length, sym, subst, arith, true, lit<}
use Rattle.archive_file.specs.{Keeps, Spells}
use Rattle.archive_file.proofs.FieldLaws.{field_of}
use Rattle.commit_log.specs.{row_fields, row_image}
use Rattle.commit_log.proofs.RowLaws.{row_found}
use Rattle.commit_log.proofs.row_reader.read_row.Goals as goal

pub returns-clause-row : goal.returns-clause-row
returns-clause-row g c = row_found g.C.Rest.rest c.args.tags c.args.at c.row_at-row.result c.in_ok-check_row.ensures.kept

pub returns-clause-spelled : goal.returns-clause-spelled
returns-clause-spelled g c =
    let last : c.args.at + 24 + 8 ≤ length g.C.Rest.rest = (c.in_ok-check_row.ensures.kept 4 (field_of 0 0 true) (lit< tt)).there in
    let there : c.args.at + 32 ≤ length g.C.Rest.rest = omega (arith, last) in
    subst (λ r. Spells g.C.Rest.rest c.args.at (row_image r) (c.args.at + 32)) (sym c.row_at-row.ensures.value)
    (c.row_at-row.ensures.spelled there)

pub returns-clause-kept : goal.returns-clause-kept
returns-clause-kept g c =
    subst (λ r. All (Keeps g.C.Rest.rest) (row_fields c.args.tags r c.args.at)) c.row_at-row.ensures.value c.in_ok-check_row.ensures.kept
