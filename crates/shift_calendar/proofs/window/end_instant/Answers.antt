use Rattle.std.proofs.Common.{◌<◌, ◌≤◌, ◌+◌, length, slice_index, subst, arith, FitsSigned, w32, to_z-of_z}
use Rattle.shift_calendar.specs.{IsInstant}
use Rattle.shift_calendar.proofs.DayNumbers.{day_after}
use Rattle.shift_calendar.proofs.Lists.{end_inside, end_outside}
use Rattle.shift_calendar.proofs.window.end_instant.Goals as goal

pub returns-then-next-shift_count-clause-instant : goal.returns-then-next-shift_count-clause-instant
returns-then-next-shift_count-clause-instant c =
    let starts = c.args.calendar.now.starts in
    let fits : FitsSigned w32 c.args.day = c.ranges.day in
    let inside : c.args.place + 1 < length starts = omega arith in
    end_inside c.args.calendar.now.zone starts c.args.day c.args.place c.start_instant.result inside
    (subst (λ d. IsInstant c.args.calendar.now.zone d (slice_index starts (c.args.place + 1)) c.start_instant.result) (to_z-of_z fits)
    c.start_instant.ensures.instant)

pub returns-else-next-shift_count-clause-instant : goal.returns-else-next-shift_count-clause-instant
returns-else-next-shift_count-clause-instant c =
    let starts = c.args.calendar.now.starts in
    let fits : FitsSigned w32 c.args.day = c.ranges.day in
    let outside : length starts ≤ c.args.place + 1 = omega arith in
    end_outside c.args.calendar.now.zone starts c.args.day c.args.place c.start_instant-else-next-shift_count.result outside
    (subst (λ d. IsInstant c.args.calendar.now.zone d (slice_index starts 0) c.start_instant-else-next-shift_count.result)
    (day_after c.args.day fits c.requires.day) c.start_instant-else-next-shift_count.ensures.instant)
