use Rattle.std.proofs.Common.{◌++◌, sym, ap, ◌∙◌, take}
use Rattle.std.proofs.lemmas.List.{get_or_default}
use Rattle.archive_file.specs.{rec_image, recs_image}
use Rattle.archive_file.proofs.Joins.{images_more}
use Rattle.archive_file.proofs.log.bytes_of.Goals as goal

pub loop-r-preserved : goal.loop-r-preserved
loop-r-preserved c =
    let rs = c.args.recs.now in
    let i = c.loop-r.r-index in
    c.in_ok-extend_from_slice.ensures.items
    ∙ ap (λ l. l ++ c.rec_bytes.result) c.loop-r.invariant
    ∙ ap (λ l. recs_image (take i rs) ++ l) c.rec_bytes.ensures
    ∙ sym (images_more rec_image rs i _ c.loop-r-test.true (get_or_default rs i _ _ c.loop-r-test.true))
