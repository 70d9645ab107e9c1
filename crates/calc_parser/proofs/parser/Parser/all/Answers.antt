use Rattle.std.proofs.Common.{arith}
use Rattle.calc_parser.proofs.Steps.{left_over}
use Rattle.calc_parser.proofs.parser.Parser.all.Goals as goal

-- the formula is whole, and more comes
pub returns-else-is_empty-clause-follows : goal.returns-else-is_empty-clause-follows
returns-else-is_empty-clause-follows c = grind (arith, left_over)
