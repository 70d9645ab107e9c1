use Rattle.std.proofs.Common.{subst}
use Rattle.trend_num.specs.{InRange}
use Rattle.trend_model.specs.{IsNotBefore, listed, IfThere}
use Rattle.tag_core.specs.Core.{Core}
use Rattle.trend_model.proofs.Held.{held_last}
use Rattle.tag_core.proofs.tag.TagCore.held.Goals as goal

pub returns-clause-range : goal.returns-clause-range
returns-clause-range c = c.self.invariant.ruled.held_is

pub returns-clause-last : goal.returns-clause-last
returns-clause-last c =
    let core = c.self.inside in
    subst (λ (v : Core). IfThere (IsNotBefore (listed v.state.records)) core.gate.last) c.self.view_is
    (held_last InRange core.compressor.tuning core.compressor.step _ _ c.self.invariant.ruled)
