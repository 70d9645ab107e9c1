-- What the readers of a plant are answered, from the state of each tag and the rows of each group alone.
use Rattle.std.specs.Prelude.{ℕ, ◌+◌, ◌<◌, List, [], ◌∷◌, ◌++◌, codes, length, map, nat_lt, slice_get, take}
use Rattle.std.specs.Fmt.{decimal}
use Rattle.std.specs.Option.{option_map_or}
use Rattle.trend_num.specs.{Point, CalcValue, most_listed, TagQuery, IsTagQuery}
use Rattle.trend_model.specs.{points_from_to, read_at, window_value}
use Rattle.tag_core.specs.Core.{Core}
use Rattle.trend_num.specs.declared.query.TagQuery.TheVariants.{At, Points, Window}
use Rattle.value_rows.specs.{Query}
use Rattle.value_rows.specs.declared.asked.Query.TheVariants.{Tag, Snap, Row}
use Rattle.calc_refresh.specs.{lists_of}
use Rattle.group_layout.specs.{cell_of}
use Rattle.group_book.specs.{GroupHistory}
use Rattle.plant_store.specs.{points_recovered}
use Rattle.trend_report.specs.{held_text, number_text, points_text, reading_text, value_text}

-- ---- one tag

-- the first points of a list, at most 256, and whether there are more
abbrev pub first_points_text : List Point → List ℕ
first_points_text ps = points_text (take most_listed ps) (nat_lt most_listed (length ps))

-- a tag's answer to a query
abbrev pub answer_in : Core → TagQuery → List ℕ
answer_in core (At t) = reading_text (read_at core.step (points_recovered core) t)
answer_in core (Points start end) = first_points_text (points_from_to (points_recovered core) start end)
answer_in core (Window m start end) = number_text (window_value core.step m (points_recovered core) start end)

-- a tag's snapshot
abbrev pub snapshot_in : Core → List ℕ
snapshot_in core =
    codes "snap " ++ decimal core.state.summary.taken ++ codes " " ++ held_text core.state.summary.held

-- ---- one group

-- the rows of a group: of each calculation its values in the windows 0, 1 and so on
abbrev pub Rows : Type 0
Rows = List (List CalcValue)

-- the rows that the histories of groups end with
abbrev pub rows_in : List GroupHistory → List Rows
rows_in groups = map (λ h. lists_of h.rows.items) groups

-- the value of a calculation in a window, or `none` if the rows have none
abbrev pub value_in : Rows → ℕ → ℕ → List ℕ
value_in rows calc k = value_text (cell_of rows calc k)

-- ---- one query

-- a query of one of so many tags, or of one of so many groups
abbrev pub IsAsked : ℕ → ℕ → Query → Type 0
IsAsked tags groups (Tag tag query) = (tag < tags) × IsTagQuery query
IsAsked tags groups (Snap tag) = tag < tags
IsAsked tags groups (Row group calc k) = group < groups

-- the answer to a query
abbrev pub told : List Core → List Rows → Query → List ℕ
told cores groups (Tag tag query) = option_map_or (λ core. answer_in core query) (slice_get cores tag) []
told cores groups (Snap tag) = option_map_or snapshot_in (slice_get cores tag) []
told cores groups (Row group calc k) = option_map_or (λ rows. value_in rows calc k) (slice_get groups group) []

-- `reply READER ROW TEXT`
abbrev pub reply_line : List Core → List Rows → ℕ → ℕ → Query → List ℕ
reply_line cores groups reader row query =
    codes "reply " ++ decimal reader ++ codes " " ++ decimal row ++ codes " " ++ told cores groups query
    ++ codes "\n"

-- ---- all queries

-- the replies to the queries of a reader; the first query has this row number
abbrev pub replies_from : List Core → List Rows → ℕ → ℕ → List Query → List ℕ
replies_from cores groups reader row [] = []
replies_from cores groups reader row (q ∷ qs) =
    reply_line cores groups reader row q ++ replies_from cores groups reader (row + 1) qs

-- the replies to the queries of some readers; the first reader has this number
abbrev pub told_from : List Core → List Rows → ℕ → List (List Query) → List ℕ
told_from cores groups reader [] = []
told_from cores groups reader (qs ∷ more) =
    replies_from cores groups reader 1 qs ++ told_from cores groups (reader + 1) more

-- what the readers are answered, in their order; readers are numbered from 1, and so are the rows of each
abbrev pub trend_text : List Core → List Rows → List (List Query) → List ℕ
trend_text cores groups readers = told_from cores groups 1 readers
