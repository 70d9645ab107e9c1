use Rattle.std.proofs.Common.{sym, ap, ◌∙◌}
use Rattle.trend_model.specs.{last_point}
use Rattle.late_insert.proofs.Summaries.{run_last, run_last_range}
use Rattle.late_insert.proofs.walk.Run.last.Goals as goal

pub returns-clause-value : goal.returns-clause-value
returns-clause-value c = ap last_point (sym c.self.view_is) ∙ run_last _ _ _ _ _ c.self.invariant

pub returns-clause-range : goal.returns-clause-range
returns-clause-range c = run_last_range _ _ _ _ _ c.self.invariant
