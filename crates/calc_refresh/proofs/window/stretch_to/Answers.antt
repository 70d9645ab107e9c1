use Rattle.calc_refresh.proofs.Spans.{ceil_bound, ceil_none, ceil_some}
use Rattle.std.proofs.Common.{refl}
use Rattle.trend_num.specs.{last_time}
use Rattle.calc_refresh.proofs.window.stretch_to.Goals as goal

pub returns-in-Some-clause-value : goal.returns-in-Some-clause-value
returns-in-Some-clause-value c =
    ceil_some c.args.content.now.records c.args.t _ c.in-Some.point c.requires.rising c.in-Some.ensures refl

pub returns-in-Some-clause-bound : goal.returns-in-Some-clause-bound
returns-in-Some-clause-bound c =
    ceil_bound c.args.content.now.records c.in-Some.point last_time c.in-Some.ensures.0 c.requires.times

pub returns-in-None-clause-value : goal.returns-in-None-clause-value
returns-in-None-clause-value c = ceil_none c.args.content.now.records c.args.t _ c.in-None.ensures refl
