use Rattle.std.proofs.Common.{◌+◌, ◌≤◌, ◌≡◌, length, sym, ap, ◌∙◌, subst, arith}
use Rattle.trend_model.specs.{Raw}
use Rattle.trend_model.specs.State.{Stands, gained}
use Rattle.trend_model.proofs.RulesLaw.{gained_few}
use Rattle.tag_core.specs.Compressed.{archive_with}
use Rattle.tag_core.specs.Core.{Core}
use Rattle.tag_core.proofs.Counts.{compared_most}
use Rattle.tag_core.proofs.Taking.{core_turned, stands_turned, value_turns}
use Rattle.tag_core.proofs.tag.TagCore.take.Goals as goal

pub invariant_of-self : goal.invariant_of-self
invariant_of-self g c =
    let core = c.self.inside in
    let was = ap (λ (v : Core). length v.state.records) c.self.view_is in
    let few = c.in_ok-before.ensures.room in
    let room : length core.compressor.records + 2 ≤ 1048576 = omega arith in
    core_turned core.compressor c.take_sent.new.self core.taken _ core.gate.last core.gate.pending _ _ (Raw c.args.p)
    (value_turns core.compressor c.take_sent.new.self core.taken _ core.gate.last core.gate.pending _ _ _ c.args.p _ _
    c.tuning.ensures.value c.take_sent.ensures.after c.offer-sent.ensures.last c.offer-sent.ensures.pending
    c.offer-sent.ensures.first c.offer-sent.ensures.second c.counted.ensures.taken)
    c.self.invariant (c.requires.range, tt) c.self.invariant.tuned_ok room

pub returns-clause-stands : goal.returns-clause-stands
returns-clause-stands g c =
    let core = c.self.inside in
    let on = stands_turned core.compressor c.take_sent.new.self core.taken _ core.gate.last core.gate.pending _ _ (Raw c.args.p)
    (value_turns core.compressor c.take_sent.new.self core.taken _ core.gate.last core.gate.pending _ _ _ c.args.p _ _
    c.tuning.ensures.value c.take_sent.ensures.after c.offer-sent.ensures.last c.offer-sent.ensures.pending
    c.offer-sent.ensures.first c.offer-sent.ensures.second c.counted.ensures.taken) in
    λ o h kind stands.
    let kind_was : o.step ≡ core.compressor.step = kind ∙ ap (λ (v : Core). v.step) (sym c.self.view_is) in
    on o h kind_was (subst (λ (v : Core). Stands o h v.state) (sym c.self.view_is) stands)

pub returns-clause-most : goal.returns-clause-most
returns-clause-most g c =
    let core = c.self.inside in
    let sent = c.offer-sent.result in
    let two = gained_few sent.first sent.second in
    let most = compared_most core.compressor.step (archive_with core.compressor core.gate.last) (gained sent.first sent.second) in
    omega (arith, c.take_sent.ensures.cost)
