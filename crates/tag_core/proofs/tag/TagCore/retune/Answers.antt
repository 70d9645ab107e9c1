use Rattle.std.proofs.Common.{◌+◌, ◌≤◌, ◌≡◌, length, sym, ap, ◌∙◌, subst, arith}
use Rattle.trend_model.specs.{Tune}
use Rattle.trend_model.specs.State.{Stands}
use Rattle.tag_core.specs.Core.{Core}
use Rattle.tag_core.proofs.Taking.{core_turned, stands_turned, tune_turns}
use Rattle.tag_core.proofs.tag.TagCore.retune.Goals as goal

pub invariant_of-self : goal.invariant_of-self
invariant_of-self g c =
    let core = c.self.inside in
    let was = ap (λ (v : Core). length v.state.records) c.self.view_is in
    let few = c.in_ok-records.ensures.room in
    let room : length core.compressor.records + 2 ≤ 1048576 = omega arith in
    core_turned core.compressor c.retune.new.self core.taken _ core.gate.last core.gate.pending _ _ (Tune c.args.tuning)
    (tune_turns core.compressor c.retune.new.self core.taken _ core.gate.last core.gate.pending _ _ _ c.args.tuning
    c.flush-waiting.ensures.first c.retune.ensures.after c.flush-waiting.ensures.last c.flush-waiting.ensures.pending c.counted.ensures.taken)
    c.self.invariant tt c.requires.tuned room

pub returns-clause-stands : goal.returns-clause-stands
returns-clause-stands g c =
    let core = c.self.inside in
    let on = stands_turned core.compressor c.retune.new.self core.taken _ core.gate.last core.gate.pending _ _ (Tune c.args.tuning)
    (tune_turns core.compressor c.retune.new.self core.taken _ core.gate.last core.gate.pending _ _ _ c.args.tuning
    c.flush-waiting.ensures.first c.retune.ensures.after c.flush-waiting.ensures.last c.flush-waiting.ensures.pending c.counted.ensures.taken) in
    λ o h kind stands.
    let kind_was : o.step ≡ core.compressor.step = kind ∙ ap (λ (v : Core). v.step) (sym c.self.view_is) in
    on o h kind_was (subst (λ (v : Core). Stands o h v.state) (sym c.self.view_is) stands)
