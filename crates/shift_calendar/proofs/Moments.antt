-- The instants of local times, in milliseconds.
use Rattle.std.proofs.Common.{◌≡◌, ◌∙◌, ℕ, suc, ◌+◌, ◌-◌, ◌*◌, ◌<◌, ◌≤◌, ℤ, pos, negsuc, ◌+ℤ◌, ◌-ℤ◌, ◌*ℤ◌, int_div, Result, Ok, IfOk, sym, ap, subst, arith, FitsSigned, Fits, w32, w64, to_z, of_z, to_z-of_z}
use Rattle.std.proofs.lemmas.Int.{ints}
use lib.Dec.{T}
use lib.IntN.{nat_abs}
use lib.Signed.{non_neg}
use Rattle.jiff.specs.Types.{DateTime, TimeZone, Timestamp}
use Rattle.jiff.specs.Words.{Error, IsOffsetSeconds, IsTimestampNanos, time_nanos, civil_nanos, picked_instant, compatible_offset, ambiguous_at}
use Rattle.jiff.proofs.Family.{civil_nanos-parts}
use Rattle.jiff.proofs.SpanFacts.{signed_arith}
use Rattle.shift_calendar.specs.{IsShiftDay, IsLocalTime}

-- nanoseconds that are whole milliseconds, before the year 9994
pub record IsMoment (nanos : ℤ) : Type 0 where
  pub instant : ℕ
  pub is : pos (instant * 1_000_000) ≡ nanos
  pub early : instant ≤ 253_200_000_000_000

-- a day and a minute of it at an offset
at_offset : (day : ℕ) (minute : ℕ) (seconds : ℤ) → 365 ≤ day → day ≤ 2_929_975 → minute < 1440 → IsOffsetSeconds seconds
    → IsMoment ((pos day *ℤ pos 86_400_000_000_000 +ℤ pos (minute * 60_000_000_000)) -ℤ (seconds *ℤ pos 1_000_000_000))
at_offset day minute (pos s) low high in_day within = record {
  instant = day * 86_400_000 + minute * 60_000 - s * 1000;
  is = omega (arith, signed_arith);
  early = omega (arith, signed_arith);
}
at_offset day minute (negsuc s) low high in_day within = record {
  instant = day * 86_400_000 + minute * 60_000 + suc s * 1000;
  is = omega (arith, signed_arith);
  early = omega (arith, signed_arith);
}

at_day : (day : ℤ) (minute : ℕ) (seconds : ℤ) → IsShiftDay day → minute < 1440 → IsOffsetSeconds seconds
    → IsMoment ((day *ℤ pos 86_400_000_000_000 +ℤ pos (minute * 60_000_000_000)) -ℤ (seconds *ℤ pos 1_000_000_000))
at_day (pos day) minute seconds in_range in_day within =
    at_offset day minute seconds (omega (arith, signed_arith)) (omega (arith, signed_arith)) in_day within
at_day (negsuc day) minute seconds in_range in_day within = absurd (omega (arith, signed_arith))

-- a local time in a zone
moment_of : (zone : TimeZone) (local : DateTime) (day : ℤ) (minute : ℕ) → IsLocalTime day minute local → IsShiftDay day → minute < 1440
    → IsMoment (picked_instant zone local)
moment_of zone local day minute shows in_range in_day =
    let offset = compatible_offset (ambiguous_at zone local) in
    let clock : civil_nanos local ≡ day *ℤ pos 86_400_000_000_000 +ℤ pos (minute * 60_000_000_000) =
    civil_nanos-parts local ∙ ap (λ d. d *ℤ pos 86_400_000_000_000 +ℤ pos (time_nanos local.time)) shows.date
    ∙ ap (λ n. day *ℤ pos 86_400_000_000_000 +ℤ pos n) shows.time in
    subst (λ n. IsMoment (n -ℤ (offset.seconds *ℤ pos 1_000_000_000))) (sym clock)
    (at_day day minute offset.seconds in_range in_day offset.in_range)

-- the same, where the day went through the bits of its type
pub moment_at : (zone : TimeZone) (local : DateTime) (day : ℤ) (minute : ℕ) → FitsSigned w32 day
    → IsLocalTime (to_z w32 (of_z w32 day)) minute local → IsShiftDay day → minute < 1440 → IsMoment (picked_instant zone local)
moment_at zone local day minute fits shows in_range in_day =
    moment_of zone local day minute (subst (λ d. IsLocalTime d minute local) (to_z-of_z fits) shows) in_range in_day

-- it is an instant that `jiff` has
pub moment_in_range : (nanos : ℤ) → IsMoment nanos → IsTimestampNanos nanos
moment_in_range nanos m =
    let early = m.early in
    subst IsTimestampNanos m.is (omega (arith, signed_arith), omega (arith, signed_arith))

-- what `jiff` returns of it in milliseconds goes through the bits of its type
pub told : (nanos : ℤ) (m : IsMoment nanos) (r : Result Timestamp Error) (t : Timestamp) (millis : ℤ) → r ≡ Ok t
    → IfOk r (λ (found : Timestamp). found.nanosecond ≡ nanos) → millis ≡ int_div t.nanosecond (pos 1_000_000)
    → to_z w64 (of_z w64 millis) ≡ pos m.instant
told nanos m r t millis ok value is =
    let early = m.early in
    let same : t.nanosecond ≡ nanos = subst (λ o. IfOk o (λ (found : Timestamp). found.nanosecond ≡ nanos)) ok value in
    let whole : int_div (pos (m.instant * 1_000_000)) (pos 1_000_000) ≡ pos m.instant = omega (arith, ints) in
    let fits : FitsSigned w64 (pos m.instant) = omega (arith, ints) in
    ap (λ z. to_z w64 (of_z w64 z)) (is ∙ ap (λ n. int_div n (pos 1_000_000)) (same ∙ sym m.is) ∙ whole) ∙ to_z-of_z fits

-- so it is no negative number, and fits
pub cast_fits : (z : ℤ) (instant : ℕ) → z ≡ pos instant → instant ≤ 253_200_000_000_000 → T (non_neg z) × Fits w64 (nat_abs z)
cast_fits z instant is early =
    let fits : Fits w64 instant = omega arith in
    subst (λ n. T (non_neg n) × Fits w64 (nat_abs n)) (sym is) (tt, fits)
