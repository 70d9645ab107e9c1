use Rattle.calc_refresh.proofs.Spans.{floor_none, floor_some, starts_at_zero}
use Rattle.std.proofs.Common.{arith}
use Rattle.calc_refresh.proofs.window.stretch_from.Goals as goal

pub returns-then-t-eq0-clause-value : goal.returns-then-t-eq0-clause-value
returns-then-t-eq0-clause-value c = starts_at_zero c.args.content.now.records c.args.t c.if-t-eq0.true

pub returns-in-Some-clause-value : goal.returns-in-Some-clause-value
returns-in-Some-clause-value c =
    floor_some c.args.content.now.records _ c.args.t c.in-Some.point c.requires.rising c.in-Some.ensures (omega arith)

pub returns-in-None-clause-value : goal.returns-in-None-clause-value
returns-in-None-clause-value c = floor_none c.args.content.now.records _ c.args.t c.in-None.ensures (omega arith)
