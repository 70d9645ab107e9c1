use Rattle.std.proofs.Common.{◌++◌, sym, ap, ◌∙◌, take}
use Rattle.archive_file.proofs.Joins.{images_more, joined}
use Rattle.group_layout.specs.{name_text, names_text}
use Rattle.group_layout.proofs.definition.put_names.Goals as goal

pub loop-name-preserved : goal.loop-name-preserved
loop-name-preserved c =
    let names = c.args.names.now in
    let i = c.loop-name.name-index in
    joined _ _ _ (names_text (take i names)) (name_text c.name-item.result) c.loop-name.invariant c.in_ok-put_name.ensures
    ∙ ap (λ l. c.args.text.now.items ++ l) (sym (images_more name_text names i c.name-item.result c.loop-name-test.true c.name-item.is))
