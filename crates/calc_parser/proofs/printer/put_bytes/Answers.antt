use Rattle.std.proofs.Common.{arith}
use Rattle.calc_parser.proofs.Names.{one_more_byte}
use Rattle.calc_parser.proofs.printer.put_bytes.Goals as goal

pub loop-b-preserved : goal.loop-b-preserved
loop-b-preserved c = grind (arith, one_more_byte)
