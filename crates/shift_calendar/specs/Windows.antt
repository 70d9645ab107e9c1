-- The shifts of days, and their windows.
use Rattle.std.specs.Prelude.{◌≡◌, ◌≤◌, ℕ, zero, suc, ◌+◌, ℤ, pos, ◌+ℤ◌, List, [], ◌∷◌, ◌++◌, length, map, slice_index, nat_lt, if◌then◌else◌}
use Rattle.std.specs.List.{flat_map}
use Rattle.jiff.specs.Types.{TimeZone}
use Rattle.trend_num.specs.{last_time}
use Rattle.shift_calendar.specs.declared.window.ShiftWindow.{ShiftWindow}
use Rattle.shift_calendar.specs.Days.{IsDay}
use Rattle.shift_calendar.specs.Instants.{IsInstant}

-- a shift: the day that it belongs to and its number there, the minute of that day at which it begins, and the day and
-- minute at which it ends
pub record Shift : Type 0 where
  pub day : ℤ
  pub number : ℕ
  pub start : ℕ
  pub last_day : ℤ
  pub end : ℕ

-- the shift at a place of a day. It ends when the next one begins; the last one ends when the first of the next day
-- begins
abbrev pub shift_at : List ℕ → ℤ → ℕ → Shift
shift_at starts day place =
    record {
      day = day;
      number = place + 1;
      start = slice_index starts place;
      last_day = if nat_lt (place + 1) (length starts) then day else day +ℤ pos 1;
      end = if nat_lt (place + 1) (length starts) then slice_index starts (place + 1) else slice_index starts 0;
    }

-- the numbers below n, in order
abbrev pub below : ℕ → List ℕ
below zero = []
below (suc n) = below n ++ n ∷ []

-- the shifts of a day, in order
abbrev pub shifts_of : List ℕ → ℤ → List Shift
shifts_of starts day = map (shift_at starts day) (below (length starts))

-- the shifts of so many days that begin with a day, the days in order
abbrev pub shifts_over : List ℕ → ℤ → ℕ → List Shift
shifts_over starts day days = flat_map (λ k. shifts_of starts (day +ℤ pos k)) (below days)

-- the window of a shift: from the instant of its start to that of its end
pub record IsWindow (zone : TimeZone) (shift : Shift) (w : ShiftWindow) : Type 0 where
  pub day : w.day ≡ shift.day
  pub number : w.shift ≡ shift.number
  pub from : IsInstant zone shift.day shift.start w.from
  pub to : IsInstant zone shift.last_day shift.end w.to

-- the windows of shifts, one each, in order
abbrev pub AreWindows : TimeZone → List Shift → List ShiftWindow → Type 0
AreWindows zone [] [] = Unit {0}
AreWindows zone [] (w ∷ ws) = ⊥
AreWindows zone (s ∷ ss) [] = ⊥
AreWindows zone (s ∷ ss) (w ∷ ws) = IsWindow zone s w × AreWindows zone ss ws

-- the day of a window is in range, and so are both of its ends
pub record IsWindowTimed (w : ShiftWindow) : Type 0 where
  pub day : IsDay w.day
  pub from : w.from ≤ last_time
  pub to : w.to ≤ last_time
