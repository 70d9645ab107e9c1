-- What the words of `log` and of `shifts` name.
use Rattle.std.specs.Prelude.{ℕ, List, [], ◌∷◌, Option, None, Some, codes, if◌then◌else◌}
use Rattle.std.specs.Str.{bytes_eq}
use Rattle.plant_files.specs.{count_upto}
use Rattle.plant_more.specs.declared.words.Planned.{Planned}
use Rattle.plant_more.specs.declared.words.ShiftWords.{ShiftWords}

-- `log BASE PLAN` names the files of a base and of a plan, whose collectors it logs
abbrev pub log_words : List (List ℕ) → Option (List ℕ × List ℕ)
log_words (verb ∷ base ∷ plan ∷ []) = if bytes_eq verb (codes "log") then Some (base, plan) else None
log_words words = None

-- the names in the code's form of these words
abbrev pub words_named : Planned → List ℕ × List ℕ
words_named p = (p.base.now, p.plan.now)

-- what `shifts` is asked for: the files of a base and of a calendar over its tags, the word of the first day, and how
-- many days
pub record AskedShifts : Type 0 where
  pub base : List ℕ
  pub calendar : List ℕ
  pub day : List ℕ
  pub days : ℕ

-- how many days `shifts` covers at most
abbrev pub most_days : ℕ
most_days = 366

-- the shifts of so many days, if the word for the days is a number
abbrev pub over_days : List ℕ → List ℕ → List ℕ → Option ℕ → Option AskedShifts
over_days base calendar day None = None
over_days base calendar day (Some days) = Some (record { base = base; calendar = calendar; day = day; days = days })

-- what `shifts BASE CALENDAR DAY DAYS` asks for, with DAYS from 1 to 366
abbrev pub shift_words : List (List ℕ) → Option AskedShifts
shift_words (verb ∷ base ∷ calendar ∷ day ∷ number ∷ []) =
    if bytes_eq verb (codes "shifts") then over_days base calendar day (count_upto most_days number) else None
shift_words words = None

-- the same, from the code's form of these words
abbrev pub asked : ShiftWords → AskedShifts
asked w = record { base = w.base.now; calendar = w.calendar.now; day = w.day.now; days = w.days }
