use Rattle.std.proofs.Common.{◌≡◌, [], List, All, get_or, refl, subst, sym, ap, ◌∙◌, arith}
use Rattle.std.specs.Prelude.{Vec}
use Rattle.std.specs.declared.alloc.Global.{Global}
use Rattle.std.proofs.lemmas.List.{map_push}
use Rattle.trend_num.specs.{Rec, InRange}
use Rattle.sheet_law.specs.{kept_end}
use Rattle.calc_refresh.specs.{IsCopy}
use Rattle.calc_refresh.proofs.Inputs.{each_read, lists_more}
use Rattle.calc_refresh.proofs.saved.ends_of.Goals as goal

pub kept_end_after-requires : goal.kept_end_after-requires
kept_end_after-requires c =
    let here = each_read IsCopy c.args.copies.now c.loop-copy.copy-index c.copy-item.result c.loop-copy-test.true c.copy-item.is c.requires in
    subst (λ (l : List Rec). All (λ r. InRange r.point) l) (sym c.deref.ensures.value) here.range

pub loop-copy-preserved : goal.loop-copy-preserved
loop-copy-preserved c =
    let i = c.loop-copy.copy-index in
    let vs = c.args.copies.now in
    let v = c.copy-item.result in
    let next = lists_more vs i v c.loop-copy-test.true in
    let one : c.kept_end_after.result ≡ kept_end v.items =
    c.kept_end_after.ensures [] refl ∙ ap kept_end c.deref.ensures.value in
    let here : v.items ≡ (get_or vs i v).items = ap (λ (w : Vec Rec Global). w.items) c.copy-item.is in
    record {
      ended = grind (arith, map_push);
      counted = omega (arith, c.push_reserved.ensures.len, c.loop-copy.invariant.counted);
      room = omega (arith, c.push_reserved.ensures.capacity, c.loop-copy.invariant.room);
    }
