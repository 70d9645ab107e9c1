use Rattle.std.proofs.Common.{◌-◌, ◌<◌, ◌∙◌, sym, refl, arith, get_or, length, pos}
use Rattle.std.proofs.lemmas.List.{get_or_default}
use Rattle.trend_num.specs.{Point}
use Rattle.session_report.proofs.Had.{had_after, had_past}
use Rattle.session_report.proofs.snap.had.Goals as goal

pub returns-then-since-held : goal.returns-then-since-held
returns-then-since-held c =
    let since = c.args.snap.taken - c.args.tag.now.opening.summary.taken in
    let nothing : Point = record { t = 0; v = pos 0 } in
    let held = c.args.held.now in
    let p = get_or held (since - 1) nothing in
    let within : since - 1 < length held = omega (arith, c.if-since-held.true) in
    c.same_held-then-since-held.ensures ∙ sym (had_after c.args.tag.now c.args.snap since held p
    (omega (arith, c.if-snap-first.false)) refl (omega (arith, c.if-since-eq0.false)) c.requires within
    (get_or_default held (since - 1) nothing p within))

pub returns-else-since-held : goal.returns-else-since-held
returns-else-since-held c =
    let since = c.args.snap.taken - c.args.tag.now.opening.summary.taken in
    sym (had_past c.args.tag.now c.args.snap since c.args.held.now (omega (arith, c.if-snap-first.false)) refl
    (omega (arith, c.if-since-eq0.false)) c.requires (omega (arith, c.if-since-held.false)))
