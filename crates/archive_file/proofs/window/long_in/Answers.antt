use Rattle.std.proofs.Common.{arith}
use Rattle.archive_file.proofs.LayoutSpellings.{spells_long}
use Rattle.archive_file.proofs.window.long_in.Goals as goal

pub returns-clause-spelled : goal.returns-clause-spelled
returns-clause-spelled c = λ there. spells_long c.args.bytes.now c.args.at (λ i. omega (arith, c.type_inv.bytes i)) there
