use Rattle.std.proofs.Common.{◌≡◌, [], List, All, get_or, refl, subst, sym, ap, ◌∙◌, arith}
use Rattle.std.specs.Prelude.{Vec}
use Rattle.std.specs.declared.alloc.Global.{Global}
use Rattle.std.proofs.lemmas.List.{length-map}
use Rattle.trend_num.specs.{Rec, InRange}
use Rattle.sheet_law.specs.{kept_end, windows_before}
use Rattle.calc_refresh.specs.{lists_of, IsCopy}
use Rattle.calc_refresh.proofs.Inputs.{each_read, lists_at}
use Rattle.calc_refresh.proofs.Limits.{least_first, least_more}
use Rattle.calc_refresh.proofs.saved.windows_of.Goals as goal

pub loop-i-init : goal.loop-i-init
loop-i-init c =
    let vs = c.args.copies.now in
    let v = c.index-copies-0.result in
    let here : c.deref.result.now ≡ get_or (lists_of vs) 0 [] =
    c.deref.ensures.value ∙ (ap (λ (w : Vec Rec Global). w.items) c.index-copies-0.is ∙ sym (lists_at vs 0 v (omega (arith, c.requires.some)))) in
    least_first c.args.grid (lists_of vs) c.windows_before-least.result
    (omega (arith, length-map vs (λ v. v.items), c.requires.some))
    (c.windows_before-least.ensures ∙ ap (windows_before c.args.grid) (c.kept_end_after.ensures [] refl ∙ ap kept_end here))

pub kept_end_after-requires-in-loop-i : goal.kept_end_after-requires-in-loop-i
kept_end_after-requires-in-loop-i c =
    let here = each_read IsCopy c.args.copies.now c.loop-i.i c.index-copies-i.result c.loop-i-test.true c.index-copies-i.is c.requires.copied in
    subst (λ (l : List Rec). All (λ r. InRange r.point) l) (sym c.deref-in-loop-i.ensures.value) here.range

pub loop-i-preserved : goal.loop-i-preserved
loop-i-preserved c =
    let vs = c.args.copies.now in
    let i = c.loop-i.i in
    let v = c.index-copies-i.result in
    let here : c.deref-in-loop-i.result.now ≡ get_or (lists_of vs) i [] =
    c.deref-in-loop-i.ensures.value ∙ (ap (λ (w : Vec Rec Global). w.items) c.index-copies-i.is ∙ sym (lists_at vs i v c.loop-i-test.true)) in
    c.min-least.ensures
    ∙ least_more c.args.grid (lists_of vs) i c.loop-i.least c.windows_before.result (omega (arith, c.loop-i.auto.i))
    (omega (arith, length-map vs (λ v. v.items), c.loop-i-test.true)) c.loop-i.invariant
    (c.windows_before.ensures ∙ ap (windows_before c.args.grid) (c.kept_end_after-in-loop-i.ensures [] refl ∙ ap kept_end here))
