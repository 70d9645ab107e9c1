use Rattle.std.proofs.Common.{subst}
use Rattle.tag_core.specs.Core.{Core, IsCore}
use Rattle.tag_core.proofs.tag.TagCore.summary.Goals as goal

pub returns-clause-is_core : goal.returns-clause-is_core
returns-clause-is_core c =
    let u = c.self.inside.compressor.tuning in
    (u, subst (λ (v : Core). IsCore u v.step v.state) c.self.view_is c.self.invariant)
