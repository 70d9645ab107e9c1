use Rattle.std.proofs.Common.{ap}
use Rattle.late_insert.specs.{Leaf}
use Rattle.late_insert.proofs.directory.Directory.id.Goals as goal

pub returns-clause-value : goal.returns-clause-value
returns-clause-value c = λ d. ap (λ (l : Leaf). l.id) (c.leaf.ensures.value d)
