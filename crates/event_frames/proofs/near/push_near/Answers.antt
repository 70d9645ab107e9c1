use Rattle.std.proofs.Common.{◌≡◌, ◌+◌, ◌-◌, ◌<◌, ◌++◌, List, length, refl, subst, sym, ap, ◌∙◌, arith}
use Rattle.std.specs.Option.{option_to_list}
use Rattle.event_frames.specs.{Frame, no_change, window_of}
use Rattle.event_frames.proofs.Listing.{IsListBelow, list_none}
use Rattle.event_frames.proofs.Nearing.{IsAfter, IsBefore, IsNearFrame, near_step}
use Rattle.event_frames.proofs.near.push_near.Goals as goal

pub loop-change-init : goal.loop-change-init
loop-change-init c =
    let truths = c.args.levels.now.truths in
    let cs = c.args.changes.now in (
      record {
        list = subst (IsListBelow (IsNearFrame truths c.args.least cs 0) 0) (sym c.requires.empty)
            (list_none (IsNearFrame truths c.args.least cs 0) 0 (λ f is. let early = is.1.early in omega (arith, early)));
        none = λ _. refl;
        some = λ more. absurd (omega arith);
      },
      omega (arith, ap length c.requires.empty, c.args.frames.now.ok.0),
      refl,
    )

pub loop-change-preserved : goal.loop-change-preserved
loop-change-preserved c =
    let truths = c.args.levels.now.truths in
    let cs = c.args.changes.now in
    let i = c.loop-change.change-index in
    let k = window_of cs i in
    let o = c.frame_before.result in
    let p = c.frame_at.result in
    let was = c.loop-change.invariant in
    let before : IsBefore truths c.args.least k c.loop-change.seen o = record {
      frame = c.frame_before.ensures.frame;
      near = c.frame_before.ensures.near;
      from = c.frame_before.ensures.from;
      upto = c.frame_before.ensures.upto;
      all = c.frame_before.ensures.all;
    } in
    let after : IsAfter truths c.args.least k p = record {
      frame = c.frame_at.ensures.frame;
      near = c.frame_at.ensures.near;
      at = c.frame_at.ensures.at;
      all = c.frame_at.ensures.all;
    } in
    let rises : 0 < i → window_of cs (i - 1) < k = λ more.
    let here : i - 1 + 1 ≡ i = omega arith in
    let rise = c.requires.rising (i - 1) no_change (omega (arith, c.loop-change-test.true)) in
    subst (λ n. window_of cs (i - 1) < window_of cs n) here rise in
    let items : c.push_some-in-loop-change.new.frames.items ≡ (c.loop-change.frames.items ++ option_to_list o) ++ option_to_list p =
    c.push_some-in-loop-change.ensures.items ∙ ap (λ (fs : List Frame). fs ++ option_to_list p) c.push_some.ensures.items in
    let place : i + 1 - 1 ≡ i = omega arith in (
      record {
        list = subst (IsListBelow (IsNearFrame truths c.args.least cs (i + 1)) (k + 2)) (sym items)
            (near_step truths c.args.least cs i k c.loop-change.seen c.loop-change.frames.items o p refl was.0.none was.0.some rises
            before after was.0.list);
        none = λ e. absurd (omega arith);
        some = λ _. ap (λ n. window_of cs n + 2) place;
      },
      omega (arith, was.1, c.push_some.ensures.more, c.push_some-in-loop-change.ensures.more),
      c.push_some-in-loop-change.ensures.capacity ∙ (c.push_some.ensures.capacity ∙ was.2),
    )
