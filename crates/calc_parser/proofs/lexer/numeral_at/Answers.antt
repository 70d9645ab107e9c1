use Rattle.std.proofs.Common.{arith}
use Rattle.calc_parser.proofs.Lexing.{run_passes}
use Rattle.calc_parser.proofs.lexer.numeral_at.Goals as goal

pub capped_value-n-requires : goal.capped_value-n-requires
capped_value-n-requires c = grind (arith, run_passes)
