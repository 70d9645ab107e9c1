use Rattle.std.proofs.Common.{◌≡◌, get_or, subst, sym, ap, ◌∙◌, arith}
use Rattle.std.specs.Prelude.{Vec}
use Rattle.std.specs.declared.alloc.Global.{Global}
use Rattle.std.proofs.lemmas.List.{map_push}
use Rattle.trend_num.specs.{Rec}
use Rattle.trend_model.specs.{listed}
use Rattle.calc_refresh.specs.{IsCopy}
use Rattle.calc_refresh.proofs.Inputs.{each_read, lists_more}
use Rattle.calc_refresh.proofs.saved.contents_of.Goals as goal

pub roomy-requires-clause-copy : goal.roomy-requires-clause-copy
roomy-requires-clause-copy c =
    subst IsCopy (sym c.deref.ensures.value)
    (each_read IsCopy c.args.copies.now c.loop-copy.copy-index c.copy-item.result c.loop-copy-test.true c.copy-item.is c.requires)

pub loop-copy-preserved : goal.loop-copy-preserved
loop-copy-preserved c =
    let i = c.loop-copy.copy-index in
    let vs = c.args.copies.now in
    let v = c.copy-item.result in
    let next = lists_more vs i v c.loop-copy-test.true in
    let content = c.in_ok-content.content in
    let here : v.items ≡ (get_or vs i v).items = ap (λ (w : Vec Rec Global). w.items) c.copy-item.is in
    let one : content.records ≡ listed (get_or vs i v).items =
    c.in_ok-content.ensures.records ∙ (ap listed c.deref.ensures.value ∙ ap listed here) in
    record {
      read = grind (arith, map_push);
      counted = omega (arith, c.push_reserved.ensures.len, c.loop-copy.invariant.counted);
      room = omega (arith, c.push_reserved.ensures.capacity, c.loop-copy.invariant.room);
    }
