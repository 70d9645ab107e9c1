use Rattle.std.proofs.Common.{sym, ◌∙◌, arith}
use Rattle.point_text.proofs.LongLine.{short_none, short_one, short_many}
use Rattle.point_text.proofs.line_reader.short_line.Goals as goal

pub returns-then-count-eq0-clause-same : goal.returns-then-count-eq0-clause-same
returns-then-count-eq0-clause-same c = short_none c.args.line.now (omega (arith, c.requires.long)) c.requires.begun (sym c.commas-count.ensures ∙ c.if-count-eq0.true)

pub returns-then-count-eq1-clause-same : goal.returns-then-count-eq1-clause-same
returns-then-count-eq1-clause-same c = short_one c.args.line.now (omega (arith, c.requires.long)) c.requires.begun (sym c.commas-count.ensures ∙ c.if-count-eq1.true)

pub returns-clause-same : goal.returns-clause-same
returns-clause-same c = grind (arith, short_many)
