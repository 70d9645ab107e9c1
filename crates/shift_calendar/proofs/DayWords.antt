-- Words of days, as `jiff` reads and writes dates.
use Rattle.std.proofs.Common.{◌≡◌, ◌∙◌, ℕ, ℤ, List, [], ◌∷◌, ◌++◌, Option, None, Some, Ok, Err, IfSome, IfNone, SomeIff, sym, ap, subst}
use Rattle.jiff.specs.Types.{Date}
use Rattle.jiff.specs.Words.{Error, epoch_day, date_text, parse_date}
use Rattle.jiff.proofs.Family.{parse_date-date_text}
use Rattle.jiff_core.specs.Calendar.{days_from_civil}
use Rattle.jiff_fmt.specs.Temporal.{DateParts, date_parts}
use Rattle.jiff_fmt.specs.Text.{year_text, pad2}
use Rattle.shift_calendar.specs.{IsDayWord, IsFirstDay}

-- what a date is asked for
abbrev pub IsAsked : Date → List ℕ → Option ℤ → Type 0
IsAsked date word found = SomeIff found (IsFirstDay (epoch_day date) × (date_text date ≡ word)) (epoch_day date)

-- the day that is found has the word
pub found_word : (date : Date) (word : List ℕ) (found : Option ℤ) → IsAsked date word found → IfSome found (IsDayWord word)
found_word date word None asked = tt
found_word date word (Some day) asked = record { date = date; number = sym asked.1; text = asked.0.1 }

pub found_in_range : (date : Date) (word : List ℕ) (found : Option ℤ) → IsAsked date word found → IfSome found IsFirstDay
found_in_range date word None asked = tt
found_in_range date word (Some day) asked = subst IsFirstDay (sym asked.1) asked.0.0

-- what reads as a date is the word of no other
same_parts : (word : List ℕ) (day : ℤ) (parts : DateParts) → parse_date word ≡ Ok parts → (w : IsDayWord word day) → date_parts w.date ≡ parts
same_parts word day parts read w =
    let own : parse_date word ≡ Ok (date_parts w.date) = ap parse_date (sym w.text) ∙ parse_date-date_text w.date in
    cc (own, read)

same_day : (a b : Date) → date_parts a ≡ date_parts b → epoch_day a ≡ epoch_day b
same_day a b same = ap (λ (p : DateParts). days_from_civil p.year p.month p.day) same

same_text : (a b : Date) → date_parts a ≡ date_parts b → date_text a ≡ date_text b
same_text a b same = ap (λ (p : DateParts). year_text p.year ++ 45 ∷ [] ++ pad2 p.month ++ 45 ∷ [] ++ pad2 p.day) same

-- where no day is found, none has the word
pub no_other : (date : Date) (word : List ℕ) (found : Option ℤ) → parse_date word ≡ Ok (date_parts date) → IsAsked date word found
    → IfNone found ((day : ℤ) → IsFirstDay day → ¬ (IsDayWord word day))
no_other date word (Some day) read asked = tt
no_other date word None read asked = λ day first w.
    let same = same_parts word day (date_parts date) read w in
    asked (
      subst IsFirstDay (sym w.number ∙ same_day w.date date same) first,
      sym (same_text w.date date same) ∙ w.text,
    )

-- what reads as no date is the word of none
pub no_date : (word : List ℕ) (why : Error) → parse_date word ≡ Err why → (day : ℤ) → IsFirstDay day → ¬ (IsDayWord word day)
no_date word why refused day first w =
    let own : parse_date word ≡ Ok (date_parts w.date) = ap parse_date (sym w.text) ∙ parse_date-date_text w.date in
    cc (own, refused)
