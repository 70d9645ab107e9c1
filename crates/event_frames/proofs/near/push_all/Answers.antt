use Rattle.std.proofs.Common.{◌≡◌, ◌+◌, ◌++◌, List, subst, sym, ap, ◌∙◌, arith}
use Rattle.std.specs.Option.{option_to_list}
use Rattle.event_frames.specs.{Frame}
use Rattle.event_frames.proofs.Nearing.{IsListed, listed_all, listed_more, listed_none}
use Rattle.event_frames.proofs.near.push_all.Goals as goal

pub loop-at-init : goal.loop-at-init
loop-at-init c = subst (IsListed c.args.levels.now.truths c.args.least 0) (sym c.requires.empty) (listed_none c.args.levels.now.truths c.args.least)

pub loop-at-preserved : goal.loop-at-preserved
loop-at-preserved c =
    let truths = c.args.levels.now.truths in
    let items : c.push_some.new.frames.items ≡ c.loop-at.frames.items ++ option_to_list c.frame_between.result =
    c.push_some.ensures.items ∙ ap (λ (fs : List Frame). fs ++ option_to_list c.frame_between.result) c.in_ok-reserve.ensures.items in
    subst (IsListed truths c.args.least (c.behind-behind.result + 1)) (sym items)
    (listed_more truths c.args.least c.loop-at.at c.behind-behind.result c.loop-at.frames.items c.frame_between.result c.loop-at.invariant
    c.behind-behind.ensures c.frame_between.ensures.frame c.frame_between.ensures.at c.frame_between.ensures.all)

pub returns : goal.returns
returns c =
    listed_all c.args.levels.now.truths c.args.least c.loop-at.at c.loop-at.frames.items
    (omega (arith, c.loop-at-test.false, c.len.ensures.value)) c.loop-at.invariant
