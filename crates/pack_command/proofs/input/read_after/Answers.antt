use Rattle.std.proofs.Common.{length-drop, length-take, arith}
use Rattle.pack_command.proofs.Pieces.{read_is}
use Rattle.pack_command.proofs.input.read_after.Goals as goal

pub returns-in-Ok-clause-read : goal.returns-in-Ok-clause-read
returns-in-Ok-clause-read g c = grind (arith, length-take, length-drop, read_is)
