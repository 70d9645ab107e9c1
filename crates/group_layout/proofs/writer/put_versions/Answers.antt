use Rattle.std.proofs.Common.{◌++◌, sym, ap, ◌∙◌, take, get_or}
use Rattle.std.proofs.lemmas.List.{get_or_default}
use Rattle.archive_file.specs.{number_bytes}
use Rattle.archive_file.proofs.Joins.{images_more, joined}
use Rattle.group_layout.specs.{versions_image}
use Rattle.group_layout.proofs.writer.put_versions.Goals as goal

pub loop-version-preserved : goal.loop-version-preserved
loop-version-preserved c =
    let versions = c.args.versions.now in
    let i = c.loop-version.version-index in
    joined _ _ _ (versions_image (take i versions)) c.to_be_bytes.result c.loop-version.invariant
    c.in_ok-extend_from_slice.ensures.items
    ∙ ap (λ l. c.args.bytes.now.items ++ (versions_image (take i versions) ++ l)) c.to_be_bytes.ensures
    ∙ ap (λ l. c.args.bytes.now.items ++ l)
    (sym (images_more (number_bytes 4) versions i (get_or versions i 0) c.loop-version-test.true
    (get_or_default versions i 0 _ c.loop-version-test.true)))
