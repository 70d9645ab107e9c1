use Rattle.std.proofs.Common.{arith}
use Rattle.group_book.proofs.refresh.pull_one.Goals as goal

pub returns-in-Ok-clause-copied : goal.returns-in-Ok-clause-copied
returns-in-Ok-clause-copied g c = record { short = c.in-Ok.ensures.short; range = c.in-Ok.ensures.in_range }

pub returns-in-Err-Ahead-clause-cause : goal.returns-in-Err-Ahead-clause-cause
returns-in-Err-Ahead-clause-cause g c = grind arith
