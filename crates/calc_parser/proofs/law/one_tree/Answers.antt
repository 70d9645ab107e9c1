use Rattle.calc_parser.proofs.Builds.{one_tree}
use Rattle.calc_parser.proofs.law.one_tree.Goals as goal

pub returns : goal.returns
returns c = one_tree
