use Rattle.std.proofs.Common.{arith}
use Rattle.trend_model.proofs.ReadLaw.{content_read, late_read, read_content}
use Rattle.trend_model.proofs.read_law.exact_reads_are_the_content.Goals as goal

pub returns-clause-content : goal.returns-clause-content
returns-clause-content c rs l step t v is = grind (arith, read_content, content_read)

pub returns-clause-closed : goal.returns-clause-closed
returns-clause-closed c rs l q step t v is = grind (arith, read_content, content_read)

pub returns-clause-late : goal.returns-clause-late
returns-clause-late c = late_read
