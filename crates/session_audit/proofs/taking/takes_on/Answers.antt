use Rattle.std.proofs.Common.{◌∙◌, ap, length}
use Rattle.std.proofs.lemmas.List.{get_or_default}
use Rattle.tag_cell.specs.{taken, ToldCell as Cell}
use Rattle.session_audit.proofs.taking.takes_on.Goals as goal

pub returns : goal.returns
returns g c d =
    c.count_takes.ensures.count ∙ ap (λ l. length (taken l)) c.tape.ensures ∙ ap (λ (cell : Cell g.row.D.Denot). length (taken cell.tape))
    (c.index-cells-tag.is ∙ get_or_default c.args.cells.now c.args.tag c.index-cells-tag.result d c.requires.known)
