-- The instants of local times.
use Rattle.std.specs.Prelude.{◌≡◌, ℕ, ◌*◌, ℤ, pos}
use Rattle.jiff.specs.Types.{DateTime, TimeZone}
use Rattle.jiff.specs.Words.{epoch_day, time_nanos, picked_instant}

-- the local time at a minute of a day. The day is a number from 1970-01-01
pub record IsLocalTime (day : ℤ) (minute : ℕ) (local : DateTime) : Type 0 where
  pub date : epoch_day local.date ≡ day
  pub time : time_nanos local.time ≡ minute * 60_000_000_000

-- the instant, in milliseconds from 1970, that `jiff`'s conversion to a zone gives for the local time at a minute of a
-- day. This includes times that the clock skips or shows twice
pub record IsInstant (zone : TimeZone) (day : ℤ) (minute instant : ℕ) : Type 0 where
  pub local : DateTime
  pub shows : IsLocalTime day minute local
  pub named : pos (instant * 1_000_000) ≡ picked_instant zone local
