use Rattle.std.proofs.Common.{◌≡◌, ◌∷◌, rules}
use Rattle.trend_model.specs.{InOrder}
use Rattle.trend_model.specs.State.{gained, pushed_out}
use Rattle.trend_model.proofs.RulesLaw.{gained_few}
use Rattle.tag_core.proofs.Taking.{adds_two, after_both}
use Rattle.tag_core.proofs.compressor.Compressor.take_sent.Goals as goal

pub returns-in-None-clause-adds : goal.returns-in-None-clause-adds
returns-in-None-clause-adds g c =
    adds_two c.args.self.now c.take_pushed_out.new.self c.args.held (gained c.args.sent.first c.args.sent.second)
    (gained_few c.args.sent.first c.args.sent.second) (search rules)

pub returns-in-Some-InOrder-clause-after : goal.returns-in-Some-InOrder-clause-after
returns-in-Some-InOrder-clause-after g c =
    let all : gained c.args.sent.first c.args.sent.second ≡ InOrder c.in-Some-InOrder.p ∷ pushed_out c.args.sent.first = search rules in
    rw all
    (after_both c.args.self.now c.take_pushed_out.new.self c.take_in_order.new.self c.args.held c.args.sent.first c.or.result
    (InOrder c.in-Some-InOrder.p) c.take_pushed_out.ensures.after c.or.ensures c.take_in_order.ensures.after)

pub returns-in-Some-InOrder-clause-adds : goal.returns-in-Some-InOrder-clause-adds
returns-in-Some-InOrder-clause-adds g c =
    adds_two c.args.self.now c.take_in_order.new.self c.args.held (gained c.args.sent.first c.args.sent.second)
    (gained_few c.args.sent.first c.args.sent.second) (returns-in-Some-InOrder-clause-after g c)

pub returns-in-Some-Late-clause-adds : goal.returns-in-Some-Late-clause-adds
returns-in-Some-Late-clause-adds g c =
    adds_two c.args.self.now c.take_late.new.self c.args.held (gained c.args.sent.first c.args.sent.second)
    (gained_few c.args.sent.first c.args.sent.second) (search rules)
