use Rattle.std.proofs.Common.{sym, ap, ◌∙◌}
use Rattle.std.specs.Prelude.{slice_get}
use Rattle.late_insert.proofs.Summaries.{run_first, run_first_range}
use Rattle.late_insert.proofs.walk.Run.first.Goals as goal

pub returns-clause-value : goal.returns-clause-value
returns-clause-value c = ap (λ l. slice_get l 0) (sym c.self.view_is) ∙ run_first _ _ _ _ _ c.self.invariant

pub returns-clause-range : goal.returns-clause-range
returns-clause-range c = run_first_range _ _ _ _ _ c.self.invariant
