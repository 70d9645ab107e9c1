-- The rows of a reader: a verb, and what it asks of a tag or of a group.
use Rattle.std.specs.Prelude.{ℕ, ◌<◌, ◌≤◌, if◌then◌else◌, List, [], ◌∷◌, Option, None, Some, nat_le, nat_lt, codes, length, position, slice_get, Result, Ok, Err}
use Rattle.std.specs.Map.{lookup}
use Rattle.std.specs.Option.{ok_or, option_map_or}
use Rattle.std.specs.Str.{bytes_eq}
use Rattle.trend_num.specs.{Measure, Reason, numeral, natural_upto, last_time, IsTagQuery}
use Rattle.trend_num.specs.declared.measure.Measure.TheVariants.{Area, Avg, Total, Low, High, Count, First, Last}
use Rattle.trend_num.specs.declared.refusal.Reason.TheVariants.{Fields, Verb, Name, Number, Range}
use Rattle.trend_num.specs.declared.query.TagQuery.TheVariants.{At, Points, Window}
use Rattle.point_text.specs.{RowNo}
use Rattle.value_rows.specs.declared.asked.GroupNames.{GroupNames}
use Rattle.value_rows.specs.declared.asked.Query.{Query}
use Rattle.value_rows.specs.declared.asked.Query.TheVariants.{Tag, Snap, Row}
use Rattle.value_rows.specs.declared.verb.Verb.{Verb as VerbOfRow}
use Rattle.value_rows.specs.declared.verb.Verb.TheVariants as verb
use Rattle.value_rows.specs.Raw.{first_place_of}
use Rattle.value_rows.specs.Reading.{rows_of_text}

-- ---- verbs

-- the words of the verbs
abbrev pub verb_words : List (List ℕ × VerbOfRow)
verb_words =
    (codes "at", verb.At) ∷ (codes "points", verb.Points) ∷ (codes "snap", verb.Snap) ∷ (codes "row", verb.Row)
    ∷ (codes "area", verb.Window Area) ∷ (codes "avg", verb.Window Avg) ∷ (codes "total", verb.Window Total)
    ∷ (codes "low", verb.Window Low) ∷ (codes "high", verb.Window High) ∷ (codes "count", verb.Window Count)
    ∷ (codes "first", verb.Window First) ∷ (codes "last", verb.Window Last) ∷ []

-- the verb of a word
abbrev pub verb_of : List ℕ → Option VerbOfRow
verb_of word = lookup (bytes_eq word) verb_words

-- ---- what follows a verb: reasons come in the order in which the fields are read

-- f of the value that was read, or the reason why none was
infixl 10 ◌>>=◌
abbrev pub ◌>>=◌ : {A B : Type 0} → Result A Reason → (A → Result B Reason) → Result B Reason
Ok a >>= f = f a
Err why >>= f = Err why

-- `snap,TAG`
unfoldable pub snap_row : List (List ℕ) → List ℕ → Result Query Reason
snap_row tags tag = do
  place ← ok_or (first_place_of tags tag) Name
  Ok (Snap place)

-- `at,TAG,T`
unfoldable pub at_row : List (List ℕ) → List ℕ → List ℕ → Result Query Reason
at_row tags tag t = do
  place ← ok_or (first_place_of tags tag) Name
  number ← ok_or (numeral t) Number
  time ← ok_or (natural_upto last_time number) Range
  Ok (Tag place (At time))

-- `TAG,FROM,TO`: a tag, and two times
unfoldable pub span_of : List (List ℕ) → List ℕ → List ℕ → List ℕ → Result (ℕ × ℕ × ℕ) Reason
span_of tags tag from to = do
  place ← ok_or (first_place_of tags tag) Name
  first ← ok_or (numeral from) Number
  second ← ok_or (numeral to) Number
  start ← ok_or (natural_upto last_time first) Range
  end ← ok_or (natural_upto last_time second) Range
  Ok (place, start, end)

-- `points,TAG,FROM,TO`: FROM is at most TO
abbrev pub points_row : List (List ℕ) → List ℕ → List ℕ → List ℕ → Result Query Reason
points_row tags tag from to = do
  span ← span_of tags tag from to
  if nat_le span.1 span.2 then Ok (Tag span.0 (Points span.1 span.2)) else Err Range

-- `MEASURE,TAG,FROM,TO`: FROM is below TO
abbrev pub window_row : List (List ℕ) → Measure → List ℕ → List ℕ → List ℕ → Result Query Reason
window_row tags m tag from to = do
  span ← span_of tags tag from to
  if nat_lt span.1 span.2 then Ok (Tag span.0 (Window m span.1 span.2)) else Err Range

-- the number of the last window that may be asked for
abbrev pub last_window : ℕ
last_window = 1000000000000

-- the place of the first group with this name
abbrev pub asked_group_place : List GroupNames → List ℕ → Option ℕ
asked_group_place groups name = position (λ g. bytes_eq name g.name) groups

-- the names of the calculations of the group at a place
abbrev pub calc_names_at : List GroupNames → ℕ → List (List ℕ)
calc_names_at groups place = option_map_or (λ g. g.calcs.items) (slice_get groups place) []

-- `row,GROUP,CALC,K`
unfoldable pub calc_row : List GroupNames → List ℕ → List ℕ → List ℕ → Result Query Reason
calc_row groups group calc k = do
  place ← ok_or (asked_group_place groups group) Name
  calculation ← ok_or (first_place_of (calc_names_at groups place) calc) Name
  number ← ok_or (numeral k) Number
  window ← ok_or (natural_upto last_window number) Range
  Ok (Row place calculation window)

-- ---- records

-- the query of a verb and one more field, of a verb and two, and of a verb and three
abbrev pub one_field : List (List ℕ) → Option VerbOfRow → List ℕ → Result Query Reason
one_field tags None a = Err Verb
one_field tags (Some verb.Snap) a = snap_row tags a
one_field tags (Some other) a = Err Fields

abbrev pub two_fields : List (List ℕ) → Option VerbOfRow → List ℕ → List ℕ → Result Query Reason
two_fields tags None a b = Err Verb
two_fields tags (Some verb.At) a b = at_row tags a b
two_fields tags (Some other) a b = Err Fields

abbrev pub three_fields : List (List ℕ) → List GroupNames → Option VerbOfRow → List ℕ → List ℕ → List ℕ → Result Query Reason
three_fields tags groups None a b c = Err Verb
three_fields tags groups (Some verb.Points) a b c = points_row tags a b c
three_fields tags groups (Some (verb.Window m)) a b c = window_row tags m a b c
three_fields tags groups (Some verb.Row) a b c = calc_row groups a b c
three_fields tags groups (Some other) a b c = Err Fields

-- the query of a record
abbrev pub query_row : List (List ℕ) → List GroupNames → List (List ℕ) → Result Query Reason
query_row tags groups (verb ∷ a ∷ []) = one_field tags (verb_of verb) a
query_row tags groups (verb ∷ a ∷ b ∷ []) = two_fields tags (verb_of verb) a b
query_row tags groups (verb ∷ a ∷ b ∷ c ∷ []) = three_fields tags groups (verb_of verb) a b c
query_row tags groups fields = Err Fields

-- a query of a tag, or of a group and a calculation, that exist
abbrev pub IsQuery : List (List ℕ) → List GroupNames → Query → Type 0
IsQuery tags groups (Tag tag query) = (tag < length tags) × IsTagQuery query
IsQuery tags groups (Snap tag) = tag < length tags
IsQuery tags groups (Row group calc k) = (group < length groups) × (calc < length (calc_names_at groups group)) × (k ≤ last_window)

-- the queries of a text of at most `most` records
abbrev pub query_rows : List (List ℕ) → List GroupNames → ℕ → List ℕ → Result (List Query) RowNo
query_rows tags groups most bytes = rows_of_text (query_row tags groups) most bytes
