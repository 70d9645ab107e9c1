use Rattle.std.proofs.Common.{◌≡◌, List, All, length, subst, sym, ap, ◌∙◌, arith}
use Rattle.std.proofs.lemmas.List.{length-map, take_all}
use Rattle.trend_num.specs.{Rec, InRange}
use Rattle.sheet_law.specs.{kept_end, longer}
use Rattle.calc_refresh.specs.{lists_of, IsCopy}
use Rattle.calc_refresh.proofs.Inputs.{each_read, length-longer}
use Rattle.calc_refresh.proofs.Limits.{least_first, least_more, window_at, windows_by}
use Rattle.calc_refresh.proofs.limit.windows_after.Goals as goal

pub loop-i-init : goal.loop-i-init
loop-i-init c = λ rss is.
    let all = longer rss (lists_of c.args.deltas.now) in
    let many : length c.args.ends.now ≡ length rss = ap length is ∙ length-map rss kept_end in
    least_first c.args.grid all c.windows_before-least.result
    (omega (arith, length-longer rss (lists_of c.args.deltas.now), c.requires.some))
    (grind (arith, window_at))

pub kept_end_after-requires-in-loop-i : goal.kept_end_after-requires-in-loop-i
kept_end_after-requires-in-loop-i c =
    let here = each_read IsCopy c.args.deltas.now c.loop-i.i c.index-deltas-i.result
    (omega (arith, c.loop-i-test.true, c.requires.inputs)) c.index-deltas-i.is c.requires.copied in
    subst (λ (l : List Rec). All (λ r. InRange r.point) l) (sym c.deref-in-loop-i.ensures.value) here.range

pub loop-i-preserved : goal.loop-i-preserved
loop-i-preserved c = λ rss is.
    let i = c.loop-i.i in
    let all = longer rss (lists_of c.args.deltas.now) in
    let many : length c.args.ends.now ≡ length rss = ap length is ∙ length-map rss kept_end in
    c.min-least.ensures
    ∙ least_more c.args.grid all i c.loop-i.least c.windows_before.result (omega (arith, c.loop-i.auto.i))
    (omega (arith, length-longer rss (lists_of c.args.deltas.now), c.loop-i-test.true))
    (c.loop-i.invariant rss is)
    (grind (arith, window_at))

pub returns : goal.returns
returns c = grind (arith, length-map, take_all, windows_by, length-longer)
