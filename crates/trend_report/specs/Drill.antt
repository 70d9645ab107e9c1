-- What a drill generates. The signal of a tag begins with a number below 2 ^ 31, which depends on the drill's number
-- and the tag's place. Each number gives the next one by a linear congruence. A draw takes the upper fifteen bits of a
-- number. Each event draws twice. The first draw is how far the event is from the clock, 100 to 999 milliseconds. The
-- second is how far it is from the level, -20 to 20 value units. Usually an event is after the clock, and clock and
-- level then move to it. Each sixteenth event goes back instead. It is that far before the clock, or at time 0 if the
-- clock has not come so far. It leaves clock and level as they are.
use Rattle.std.specs.Prelude.{List, map, Bool, ℕ, zero, suc, ◌+◌, ◌-◌, ◌*◌, ◌/◌, ◌%◌, ◌^◌, ◌<◌, ◌≤◌, ◌==◌, if◌then◌else◌, ℤ, pos, ◌+ℤ◌, ◌-ℤ◌, unsigned_abs}
use Rattle.std.specs.List.{range_with_len}
use Rattle.trend_num.specs.{Point}
use Rattle.trend_report.specs.declared.drill.Signal.{Signal}

-- the number after a number, and what is drawn of one
abbrev pub next_number : ℕ → ℕ
next_number x = (1103515245 * x + 12345) % 2 ^ 31

abbrev pub drawn : ℕ → ℕ
drawn x = x / 65536

-- how far an event is from the clock, and how far from the level, if it draws after this number
abbrev pub gap_of : ℕ → ℕ
gap_of x = 100 + drawn (next_number x) % 900

abbrev pub swing_of : ℕ → ℤ
swing_of x = pos (drawn (next_number (next_number x)) % 41) -ℤ pos 20

-- whether the event at a place, counted from 0, goes back
abbrev pub goes_back : ℕ → Bool
goes_back n = n % 16 == 15

-- the event at a place, from the signal before it
abbrev pub event : ℕ → Signal → Point
event n s =
    record {
      t = if goes_back n then s.clock - gap_of s.number else s.clock + gap_of s.number;
      v = s.level +ℤ swing_of s.number;
    }

-- the signal after it
abbrev pub signal_after : ℕ → Signal → Signal
signal_after n s =
    record {
      number = next_number (next_number s.number);
      clock = if goes_back n then s.clock else s.clock + gap_of s.number;
      level = if goes_back n then s.level else s.level +ℤ swing_of s.number;
    }

-- the signal of a tag before its first event, and before the event at a place
abbrev pub first_signal : ℕ → ℕ → Signal
first_signal number tag = record { number = (number + 1000 * tag) % 2 ^ 31; clock = 0; level = pos 0 }

abbrev pub signal_at : ℕ → ℕ → ℕ → Signal
signal_at number tag zero = first_signal number tag
signal_at number tag (suc n) = signal_after n (signal_at number tag n)

-- the first `events` points of the tag
abbrev pub drill_points : ℕ → ℕ → ℕ → List Point
drill_points number tag events = map (λ n. event n (signal_at number tag n)) (range_with_len 0 events)

-- how far a signal can have come after so many events
pub record IsNear (events : ℕ) (s : Signal) : Type 0 where
  pub number : s.number < 2 ^ 31
  pub clock : s.clock ≤ 999 * events
  pub level : unsigned_abs s.level ≤ 20 * events
