-- The meaning of the text of a calendar.
use Rattle.std.specs.Prelude.{◌≤◌, ℕ, ◌+◌, ◌-◌, ◌*◌, Bool, true, if◌then◌else◌, ◌&&◌, List, [], ◌∷◌, ◌++◌, length, position, slice_index, codes, bytes_eq, nat_eq, nat_le, nat_lt, Option, None, Some, option_and_then, option_map, Result, Ok}
use Rattle.std.specs.Char.{is_ascii_digit}
use Rattle.std.specs.List.{list_any}
use Rattle.toml.specs.Data.{Items, Members, no_items, item, as_str}
use Rattle.jiff.specs.Types.{TimeZone, Posix}
use Rattle.jiff_tz.specs.PosixReader.{read_whole}
use Rattle.jiff_tz.specs.PosixText.{TzText, tz_view}
use Rattle.trend_num.specs.{Measure}
use Rattle.trend_num.specs.declared.measure.Measure.TheVariants.{Area, Avg, Total, Low, High, Count, First, Last}
use Rattle.shift_calendar.specs.declared.refusal.CalNo.{CalNo}
use Rattle.shift_calendar.specs.declared.refusal.CalNo.TheVariants.{BadText}
use Rattle.shift_calendar.specs.Answers.{when, given}
use Rattle.toml_tables.specs.{document, has_keys, places_at, string_at, array_at, is_count}

-- how many shifts a day may have, and how many tags a calendar
abbrev pub most_starts : ℕ
most_starts = 24

abbrev pub most_tags : ℕ
most_tags = 64

-- ---- starts

-- the number of the two decimal digits at a place, if it is below a limit
abbrev pub two_digits : List ℕ → ℕ → ℕ → Option ℕ
two_digits bytes at limit =
    let number = (slice_index bytes at - 48) * 10 + (slice_index bytes (at + 1) - 48) in
    if is_ascii_digit (slice_index bytes at) && is_ascii_digit (slice_index bytes (at + 1)) && nat_lt number limit
    then Some number else None

-- the minute of the day that a text `HH:MM` names, from 00:00 to 23:59
abbrev pub shift_start_of : List ℕ → Option ℕ
shift_start_of bytes =
    if nat_eq (length bytes) 5 && nat_eq (slice_index bytes 2) 58
    then option_and_then (λ hour. option_map (λ minute. hour * 60 + minute) (two_digits bytes 3 60))
    (two_digits bytes 0 24)
    else None

-- the minutes that items name, after some earlier minutes, if each item is such a text
abbrev pub starts_after : List ℕ → Items → Option (List ℕ)
starts_after earlier no_items = Some earlier
starts_after earlier (item d ds) =
    option_and_then (λ start. starts_after (earlier ++ start ∷ []) ds) (option_and_then shift_start_of (as_str d))

-- whether numbers rise strictly, and the first is not below another number
abbrev pub rises_from : ℕ → List ℕ → Bool
rises_from least [] = true
rises_from least (n ∷ ns) = nat_le least n && rises_from (n + 1) ns

-- the starts of the shifts, if there are 1 to 24 and they rise strictly
abbrev pub starts_of : Items → Option (List ℕ)
starts_of items =
    if is_count most_starts items
    then option_and_then (λ starts. if rises_from 0 starts then Some starts else None) (starts_after [] items)
    else None

abbrev pub starts_at : Members → Option (List ℕ)
starts_at ms = option_and_then starts_of (array_at (codes "starts") ms)

-- ---- tags

-- the place of the first tag with a name
abbrev pub tag_place_of : List (List ℕ) → List ℕ → Option ℕ
tag_place_of names name = position (λ n. bytes_eq n name) names

-- whether a place is among earlier ones
abbrev pub is_taken : List ℕ → ℕ → Bool
is_taken earlier place = list_any (λ p. nat_eq p place) earlier

-- a place, if it is not among earlier ones
abbrev pub untaken : List ℕ → ℕ → Option ℕ
untaken earlier place = if is_taken earlier place then None else Some place

-- the place of the tag with a name, if it is not among earlier places
abbrev pub new_place : List (List ℕ) → List ℕ → List ℕ → Option ℕ
new_place names earlier name = option_and_then (untaken earlier) (tag_place_of names name)

-- ---- measure and zone

-- the measure that a word names
abbrev pub measure_of_word : List ℕ → Option Measure
measure_of_word word =
    if bytes_eq word (codes "area") then Some Area
    else (if bytes_eq word (codes "avg") then Some Avg
    else (if bytes_eq word (codes "total") then Some Total
    else (if bytes_eq word (codes "low") then Some Low
    else (if bytes_eq word (codes "high") then Some High
    else (if bytes_eq word (codes "count") then Some Count
    else (if bytes_eq word (codes "first") then Some First
    else (if bytes_eq word (codes "last") then Some Last
    else None)))))))

abbrev pub measure_at : Members → Option Measure
measure_at ms = option_and_then measure_of_word (string_at (codes "measure") ms)

-- the rule of the POSIX time zone in a table, as `jiff` reads it
abbrev pub zone_at : Members → Option TzText
zone_at ms = option_and_then read_whole (string_at (codes "zone") ms)

-- ---- the whole

-- a calendar: its zone, the minutes of the day at which its shifts begin, the places of its tags, and its
-- measure
pub record CalendarParts : Type 0 where
  pub zone : TimeZone
  pub starts : List ℕ
  pub tags : List ℕ
  pub measure : Measure

-- the same, with the rule of the zone as its text states it
pub record Form : Type 0 where
  pub zone : Option TzText
  pub starts : List ℕ
  pub tags : List ℕ
  pub measure : Measure

-- the rule of a POSIX zone
abbrev pub zone_rule : TimeZone → Option TzText
zone_rule (Posix rule) = Some (tz_view rule)
zone_rule _ = None

abbrev pub calendar_form_of : CalendarParts → Form
calendar_form_of c =
    record {
      zone = zone_rule c.zone;
      starts = c.starts;
      tags = c.tags;
      measure = c.measure;
    }

abbrev pub calendar_keys : List (List ℕ)
calendar_keys = codes "zone" ∷ codes "starts" ∷ codes "tags" ∷ codes "measure" ∷ []

-- the calendar that bytes spell, where `names` are those of the base's tags, or the first rule that they break. The
-- rules in their order: 1 a document, 2 its keys, 3 its zone, 4 its starts, 5 its tags, 6 its measure
abbrev pub calendar : List (List ℕ) → List ℕ → Result Form CalNo
calendar names bytes =
    given (document bytes) (BadText 1) (λ ms.
    when (has_keys calendar_keys [] ms) (BadText 2)
    (given (zone_at ms) (BadText 3) (λ zone.
    given (starts_at ms) (BadText 4) (λ starts.
    given (places_at (new_place names) most_tags (codes "tags") ms) (BadText 5) (λ tags.
    given (measure_at ms) (BadText 6) (λ measure.
    Ok (record { zone = Some zone; starts = starts; tags = tags; measure = measure })))))))

-- a calendar has no fewer and no more shifts a day and tags than it may have
pub record IsSized (starts tags : ℕ) : Type 0 where
  pub some_starts : 1 ≤ starts
  pub few_starts : starts ≤ most_starts
  pub some_tags : 1 ≤ tags
  pub few_tags : tags ≤ most_tags
