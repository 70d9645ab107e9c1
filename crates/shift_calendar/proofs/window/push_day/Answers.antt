use Rattle.std.proofs.Common.{◌≡◌, ◌∙◌, ◌++◌, ◌∷◌, ◌+◌, [], map, length, All, ap, sym, subst, arith, append_assoc, FitsSigned, w32, to_z, of_z, to_z-of_z}
use Rattle.std.proofs.lemmas.Grind.{common_steps}
use Rattle.std.proofs.lemmas.List.Elements.{All-push}
use Rattle.shift_calendar.specs.{shift_at, below, AreWindows, IsWindowTimed}
use Rattle.shift_calendar.proofs.Lists.{AreWindows-push, shifts-more}
use Rattle.shift_calendar.proofs.window.push_day.Goals as goal

pub returns-clause-added : goal.returns-clause-added
returns-clause-added c = λ done all.
    let starts = c.args.calendar.now.starts in
    let zone = c.args.calendar.now.zone in
    let day = to_z w32 (of_z w32 c.args.day) in
    let items = c.loop-place.windows.items in
    let fits : FitsSigned w32 c.args.day = c.ranges.day in
    let ended : c.loop-place.place ≡ length starts = omega arith in
    subst (λ d. AreWindows zone (done ++ map (shift_at starts d) (below (length starts))) items) (to_z-of_z fits)
    (subst (λ n. AreWindows zone (done ++ map (shift_at starts day) (below n)) items) ended (c.loop-place.invariant.added done all))

pub returns-clause-timed : goal.returns-clause-timed
returns-clause-timed c = c.loop-place.invariant.timed

pub loop-place-preserved : goal.loop-place-preserved
loop-place-preserved c =
    let starts = c.args.calendar.now.starts in
    let zone = c.args.calendar.now.zone in
    let day = to_z w32 (of_z w32 c.args.day) in
    let place = c.loop-place.place in
    let window = c.window_of.result in
    let shift = shift_at starts day place in
    let earlier = map (shift_at starts day) (below place) in
    let grown : c.push.new.self.items ≡ c.loop-place.windows.items ++ window ∷ [] = grind (arith, common_steps) in
    record {
      added = λ done all.
          let more : (done ++ earlier) ++ shift ∷ [] ≡ done ++ map (shift_at starts day) (below (place + 1)) =
          append_assoc done earlier (shift ∷ []) ∙ ap (λ ss. done ++ ss) (sym (shifts-more starts day place)) in
          subst (λ ss. AreWindows zone ss c.push.new.self.items) more
          (subst (AreWindows zone ((done ++ earlier) ++ shift ∷ [])) (sym grown)
          (AreWindows-push zone (done ++ earlier) c.loop-place.windows.items shift window (c.loop-place.invariant.added done all)
          c.window_of.ensures.window));
      timed = λ all. subst (All IsWindowTimed) (sym grown)
          (All-push IsWindowTimed c.loop-place.windows.items window (c.loop-place.invariant.timed all) c.window_of.ensures.timed);
    }
