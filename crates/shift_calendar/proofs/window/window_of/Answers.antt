use Rattle.std.proofs.Common.{slice_index, refl, subst, FitsSigned, w32, to_z-of_z}
use Rattle.shift_calendar.specs.{IsInstant, shift_at}
use Rattle.shift_calendar.proofs.window.window_of.Goals as goal

pub returns-clause-window : goal.returns-clause-window
returns-clause-window c =
    let starts = c.args.calendar.now.starts in
    let zone = c.args.calendar.now.zone in
    let fits : FitsSigned w32 c.args.day = c.ranges.day in
    record {
      day = to_z-of_z fits;
      number = refl;
      from = subst (λ d. IsInstant zone d (slice_index starts c.args.place) c.start_instant-from.result) (to_z-of_z fits) c.start_instant-from.ensures.instant;
      to = subst (λ d. IsInstant zone (shift_at starts d c.args.place).last_day (shift_at starts d c.args.place).end c.end_instant-to.result)
          (to_z-of_z fits) c.end_instant-to.ensures.instant;
    }
