use Rattle.std.proofs.Common.{◌++◌, sym, ap, ◌∙◌, take}
use Rattle.std.proofs.lemmas.List.{get_or_default}
use Rattle.archive_file.proofs.Joins.{images_more, joined}
use Rattle.group_layout.specs.{row_image, rows_image}
use Rattle.group_layout.proofs.writer.put_rows.Goals as goal

pub loop-row-preserved : goal.loop-row-preserved
loop-row-preserved c =
    let rows = c.args.rows.now in
    let i = c.loop-row.row-index in
    joined _ _ _ (rows_image (take i rows)) c.row_bytes.result c.loop-row.invariant c.in_ok-extend_from_slice.ensures.items
    ∙ ap (λ l. c.args.bytes.now.items ++ (rows_image (take i rows) ++ l)) c.row_bytes.ensures
    ∙ ap (λ l. c.args.bytes.now.items ++ l)
    (sym (images_more row_image rows i _ c.loop-row-test.true (get_or_default rows i _ _ c.loop-row-test.true)))
