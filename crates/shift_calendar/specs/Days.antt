-- Days as words.
use Rattle.std.specs.Prelude.{◌≡◌, ℕ, ℤ, pos, List}
use Rattle.jiff.specs.Types.{Date}
use Rattle.jiff.specs.Words.{IsBetween, epoch_day, date_text}

-- the word `YYYY-MM-DD` of a day is the text of its date. The day is a number from 1970-01-01
pub record IsDayWord (word : List ℕ) (day : ℤ) : Type 0 where
  pub date : Date
  pub number : epoch_day date ≡ day
  pub text : date_text date ≡ word

-- a day from 1970-01-01 to 9999-12-31
abbrev pub IsDay : ℤ → Type 0
IsDay day = IsBetween (pos 0) (pos 2_932_896) day

-- a day from 1971-01-01 to 9990-12-31: a list of shifts may begin with it
abbrev pub IsFirstDay : ℤ → Type 0
IsFirstDay day = IsBetween (pos 365) (pos 2_929_609) day

-- a day that may have shifts in a list: such a day, or one of the 365 after it
abbrev pub IsWindowDay : ℤ → Type 0
IsWindowDay day = IsBetween (pos 365) (pos 2_929_974) day

-- such a day, or the day after it, on which its last shift ends
abbrev pub IsShiftDay : ℤ → Type 0
IsShiftDay day = IsBetween (pos 365) (pos 2_929_975) day
