use Rattle.std.proofs.Common.{◌<◌, ◌++◌, sym, subst, arith, FitsSigned, w32, to_z, of_z}
use Rattle.shift_calendar.specs.{shifts_of, shifts_over, AreWindows}
use Rattle.shift_calendar.proofs.DayNumbers.{days_after}
use Rattle.shift_calendar.proofs.Lists.{shifts_over-more}
use Rattle.shift_calendar.proofs.window.shift_windows.Goals as goal

pub loop-k-preserved : goal.loop-k-preserved
loop-k-preserved c =
    let starts = c.args.cal.now.starts in
    let zone = c.args.cal.now.zone in
    let day = to_z w32 (of_z w32 c.args.day) in
    let fits : FitsSigned w32 c.args.day = c.ranges.day in
    let k = c.loop-k.k in
    let few : k < 366 = omega arith in
    let items = c.push_day.new.windows.items in
    let before = shifts_over starts day k in
    let added = c.in_ok-push_day.ensures.added before c.loop-k.invariant.windows in
    record {
      windows = subst (λ ss. AreWindows zone ss items) (sym (shifts_over-more starts day k))
          (subst (λ d. AreWindows zone (before ++ shifts_of starts d) items) (days_after c.args.day k fits c.requires.day few) added);
      timed = c.in_ok-push_day.ensures.timed c.loop-k.invariant.timed;
    }
