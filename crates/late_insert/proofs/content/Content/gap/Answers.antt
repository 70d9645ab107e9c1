use Rattle.std.proofs.Common.{ap, subst}
use Rattle.trend_model.specs.{IsRising}
use Rattle.late_insert.proofs.content.Content.gap.Goals as goal

pub returns-clause-rising : goal.returns-clause-rising
returns-clause-rising c = subst IsRising (ap (λ s. s.records) c.self.view_is) c.self.invariant.paged.rising
