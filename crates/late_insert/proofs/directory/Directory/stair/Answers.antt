use Rattle.std.proofs.Common.{ap, sym, ◌∙◌, rules}
use Rattle.std.specs.Prelude.{FitsSigned}
use Rattle.std.specs.Int.{w128}
use Rattle.std.proofs.lemmas.Int.{to_z-of_z}
use Rattle.late_insert.specs.{Leaf}
use Rattle.late_insert.proofs.directory.Directory.stair.Goals as goal

pub returns : goal.returns
returns c = λ d.
    let fits : FitsSigned w128 c.leaf.result.now.summary.stair = search rules in
    ap (λ (l : Leaf). l.summary.stair) (c.leaf.ensures.value d) ∙ sym (to_z-of_z w128 c.leaf.result.now.summary.stair fits)
