use Rattle.std.proofs.Common.{◌≡◌, ◌≤◌, true, false, ap, sym, subst, arith, FitsSigned, w32, to_z-of_z}
use Rattle.jiff.specs.Words.{plain_zone, picked_instant}
use Rattle.trend_num.specs.{last_time}
use Rattle.shift_calendar.specs.{IsInstant, IsLocalTime}
use Rattle.shift_calendar.proofs.Moments.{moment_at, moment_in_range, told, cast_fits}
use Rattle.shift_calendar.proofs.instant.instant.Goals as goal
use lib.IntN.{nat_abs}

-- `jiff` has each instant that is asked for.
pub unreachable-requires : goal.unreachable-requires
unreachable-requires c =
    let zone = plain_zone c.args.zone.now in
    let local = c.local_time.result in
    let m = moment_at zone local c.args.day c.args.start.minute c.ranges.day c.local_time.ensures c.requires c.args.start.in_day in
    let there = c.to_timestamp.ensures.succeeds.1 (moment_in_range (picked_instant zone local) m) in
    let none : false ≡ true = rw c.in-Err.is at there in
    cc none

pub overflow_cast-result : goal.overflow_cast-result
overflow_cast-result c =
    let nanos = picked_instant (plain_zone c.args.zone.now) c.local_time.result in
    let m = moment_at (plain_zone c.args.zone.now) c.local_time.result c.args.day c.args.start.minute c.ranges.day c.local_time.ensures
    c.requires c.args.start.in_day in
    let is = told nanos m c.to_timestamp.result c.in-Ok.instant c.as_millisecond.result c.in-Ok.is c.to_timestamp.ensures.value c.as_millisecond.ensures in
    cast_fits _ m.instant is m.early

pub returns-clause-instant : goal.returns-clause-instant
returns-clause-instant c =
    let zone = plain_zone c.args.zone.now in
    let local = c.local_time.result in
    let fits : FitsSigned w32 c.args.day = c.ranges.day in
    let m = moment_at zone local c.args.day c.args.start.minute fits c.local_time.ensures c.requires c.args.start.in_day in
    let is = told (picked_instant zone local) m c.to_timestamp.result c.in-Ok.instant c.as_millisecond.result c.in-Ok.is
    c.to_timestamp.ensures.value c.as_millisecond.ensures in
    subst (IsInstant zone c.args.day c.args.start.minute) (sym (ap nat_abs is))
    (record {
      local = local;
      shows = subst (λ d. IsLocalTime d c.args.start.minute local) (to_z-of_z fits) c.local_time.ensures;
      named = m.is;
    })

pub returns-clause-in_time : goal.returns-clause-in_time
returns-clause-in_time c =
    let nanos = picked_instant (plain_zone c.args.zone.now) c.local_time.result in
    let m = moment_at (plain_zone c.args.zone.now) c.local_time.result c.args.day c.args.start.minute c.ranges.day c.local_time.ensures
    c.requires c.args.start.in_day in
    let is = told nanos m c.to_timestamp.result c.in-Ok.instant c.as_millisecond.result c.in-Ok.is c.to_timestamp.ensures.value c.as_millisecond.ensures in
    let early = m.early in
    subst (λ n. n ≤ last_time) (sym (ap nat_abs is)) (omega arith)
