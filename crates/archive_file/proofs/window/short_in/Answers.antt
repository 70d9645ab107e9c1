use Rattle.std.proofs.Common.{arith}
use Rattle.archive_file.proofs.LayoutSpellings.{spells_short}
use Rattle.archive_file.proofs.window.short_in.Goals as goal

pub returns-clause-spelled : goal.returns-clause-spelled
returns-clause-spelled c = λ there. spells_short c.args.bytes.now c.args.at (λ i. omega (arith, c.type_inv.bytes i)) there
