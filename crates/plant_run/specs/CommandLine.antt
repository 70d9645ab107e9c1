-- What the words of a command line ask for.
use Rattle.std.specs.Prelude.{ℕ, ◌≤◌, ◌*◌, List, [], ◌∷◌, Option, None, Some, codes, map, nat_le, option_and_then, string_bytes, if◌then◌else◌}
use Rattle.std.specs.Str.{bytes_eq}
use Rattle.trend_num.specs.{Tuning, TuningInRange, last_time, largest_value}
use Rattle.plant_files.specs.{count_upto, number_upto}
use Rattle.plant_more.specs.{AskedShifts, log_words, shift_words}
use Rattle.plant_run.specs.declared.command_line.Form.{Form as FormOfWords}
use Rattle.plant_run.specs.declared.command_line.Form.TheVariants as form

-- f of the value, if there is one
infixl 10 ◌>>=◌
abbrev pub ◌>>=◌ : {A B : Type 0} → Option A → (A → Option B) → Option B
o >>= f = option_and_then f o

-- the tuning of five numerals in their ranges
unfoldable pub tuning_of : List ℕ → List ℕ → List ℕ → List ℕ → List ℕ → Option Tuning
tuning_of exc_dev exc_max comp_dev comp_min comp_max = do
  exc_dev' ← number_upto largest_value exc_dev
  exc_max' ← number_upto last_time exc_max
  comp_dev' ← number_upto largest_value comp_dev
  comp_min' ← number_upto last_time comp_min
  comp_max' ← number_upto last_time comp_max
  Some (record { exc_dev = exc_dev'; exc_max = exc_max'; comp_dev = comp_dev'; comp_min = comp_min'; comp_max = comp_max' })

-- What a command line asks for:
-- - `Pack`: to pack the input with this tuning.
-- - `Check`: to check the tags of a base.
-- - `Trend`: to answer the readers of a plan over a base.
-- - `Run`: to run a plan over a base.
-- - `Log`: to log a plan over a base. None if the words after the verb are not BASE PLAN.
-- - `Shifts`: to print the figures of shifts. None if the words after the verb are not BASE CALENDAR DAY DAYS,
--   with DAYS from 1 to 366.
-- - `Frames`: to print the frames of a group's calculation that have at least so many windows.
-- - `Drill`: to run the drill with this number, with so many tags and so many events for each.
-- - `Unknown`: no known command.
pub data Form : Type 0 where
  Pack : Tuning → Form
  Check : List ℕ → Form
  Trend : List ℕ → List ℕ → Form
  Run : List ℕ → List ℕ → Form
  Log : Option (List ℕ × List ℕ) → Form
  Shifts : Option AskedShifts → Form
  Frames : List ℕ → List ℕ → List ℕ → ℕ → Form
  Drill : ℕ → ℕ → ℕ → Form
  Unknown : Form

-- the form that the code's form stands for
abbrev pub asked : FormOfWords → Form
asked (form.Pack tuning) = Pack tuning
asked (form.Check base) = Check base.now
asked (form.Trend base plan) = Trend base.now plan.now
asked (form.Run base plan) = Run base.now plan.now
asked (form.Log words) = Log (log_words (map string_bytes words.now))
asked (form.Shifts words) = Shifts (shift_words (map string_bytes words.now))
asked (form.Frames base group calc least) = Frames base.now group.now calc.now least
asked (form.Drill number tags events) = Drill number tags events
asked form.Unknown = Unknown

-- `Pack` if there is a tuning
abbrev pub packing : Option Tuning → Form
packing None = Unknown
packing (Some tuning) = Pack tuning

-- the highest LEAST of `frames`
abbrev pub most_least : ℕ
most_least = 1_000_000

-- `Frames` if LEAST is a number
abbrev pub framing : List ℕ → List ℕ → List ℕ → Option ℕ → Form
framing base group calc None = Unknown
framing base group calc (Some least) = Frames base group calc least

-- the highest number of a drill; the most tags that it has; and the most events, all its tags together
abbrev pub most_number : ℕ
most_number = 2147483647

abbrev pub most_tags : ℕ
most_tags = 64

abbrev pub most_events : ℕ
most_events = 4000000

-- `Drill` if all three are numbers and the events of all tags together are not too many
abbrev pub drilling : Option ℕ → Option ℕ → Option ℕ → Form
drilling (Some number) (Some tags) (Some events) = if nat_le (tags * events) most_events then Drill number tags events else Unknown
drilling number tags events = Unknown

-- what words ask for that do not begin with `log` or `shifts`: `check BASE`, `trend BASE PLAN`, `run BASE PLAN`,
-- `drill NUMBER TAGS EVENTS`, `frames BASE GROUP CALC LEAST`, or `pack EXCDEV EXCMAX COMPDEV COMPMIN COMPMAX`
abbrev pub other_form : List (List ℕ) → Form
other_form (verb ∷ base ∷ []) = if bytes_eq verb (codes "check") then Check base else Unknown
other_form (verb ∷ base ∷ plan ∷ []) =
    if bytes_eq verb (codes "trend") then Trend base plan
    else if bytes_eq verb (codes "run") then Run base plan
    else Unknown
other_form (verb ∷ number ∷ tags ∷ events ∷ []) = if bytes_eq verb (codes "drill")
    then drilling (number_upto most_number number) (count_upto most_tags tags) (number_upto most_events events) else Unknown
other_form (verb ∷ base ∷ group ∷ calc ∷ number ∷ []) =
    if bytes_eq verb (codes "frames") then framing base group calc (count_upto most_least number) else Unknown
other_form (verb ∷ exc_dev ∷ exc_max ∷ comp_dev ∷ comp_min ∷ comp_max ∷ []) =
    if bytes_eq verb (codes "pack") then packing (tuning_of exc_dev exc_max comp_dev comp_min comp_max) else Unknown
other_form words = Unknown

-- what a command line asks for; the verbs `log` and `shifts` alone decide how the words after them are read
abbrev pub form_of : List (List ℕ) → Form
form_of [] = Unknown
form_of (verb ∷ words) =
    if bytes_eq verb (codes "log") then Log (log_words (verb ∷ words))
    else if bytes_eq verb (codes "shifts") then Shifts (shift_words (verb ∷ words))
    else other_form (verb ∷ words)

-- a form whose numbers, if it has them, are in range
abbrev pub FormInRange : Form → Type 0
FormInRange (Pack tuning) = TuningInRange tuning
FormInRange (Frames base group calc least) = (1 ≤ least) × (least ≤ most_least)
FormInRange (Drill number tags events) = (1 ≤ tags) × (tags ≤ most_tags)
FormInRange other = Unit {0}
