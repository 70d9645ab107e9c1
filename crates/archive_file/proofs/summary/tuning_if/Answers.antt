use Rattle.std.proofs.Common.{arith, sym, ◌∙◌}
use Rattle.archive_file.proofs.Parts.{tuning_some, tuning_none}
use Rattle.archive_file.proofs.summary.tuning_if.Goals as goal

pub returns-then-there : goal.returns-then-there
returns-then-there c = grind (arith, tuning_some)

pub returns-else-there : goal.returns-else-there
returns-else-there c = λ o there tuned is. tuning_none o (sym there ∙ c.if-there.false)
