use Rattle.std.proofs.Common.{ap}
use Rattle.late_insert.specs.{Leaf}
use Rattle.late_insert.proofs.directory.Directory.start.Goals as goal

pub returns : goal.returns
returns c = λ d. ap (λ (l : Leaf). l.start) (c.leaf.ensures.value d)
