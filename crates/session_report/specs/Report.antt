-- The report of a session.
use Rattle.std.specs.Prelude.{ℕ, ◌+◌, ◌-◌, Bool, true, false, List, [], ◌∷◌, ◌++◌, count_by, length, slice_get, slice_index_or, Option, None, Some}
use Rattle.std.specs.List.{concat}
use Rattle.std.specs.Option.{option_map_or}
use Rattle.trend_num.specs.{TagDef, CalcValue}
use Rattle.calc_check.specs.Group.{Calculation}
use Rattle.tag_base.specs.{Base, GroupDef}
use Rattle.value_rows.specs.{Query}
use Rattle.value_rows.specs.declared.asked.Query.TheVariants as query
use Rattle.tag_cell.specs.{Entry, TagHistory}
use Rattle.tag_cell.specs.declared.entry.Entry.TheVariants as entry
use Rattle.calc_refresh.specs.{lists_of}
use Rattle.group_book.specs.{Turn, GroupHistory}
use Rattle.group_book.specs.declared.turn.Turn.TheVariants as turn
use Rattle.trend_report.specs.{LastRow, ReplyText, group_lines, tag_line_of, reply_text, tag_text}
use Rattle.trend_report.specs.declared.reply_line.ReplyText.TheVariants.{Tag, Snap, Row}
use Rattle.session_report.specs.declared.session.Session.{Session}
use Rattle.session_report.specs.Askers.{first_by, group_asker, tag_asker}
use Rattle.session_report.specs.Snaps.{snap_of, told_at}

-- the results of f for each element and its place, where the first element has the place n
abbrev pub placed_answers : {A B : Type 0} → (ℕ → A → B) → ℕ → List A → List B
placed_answers f n [] = []
placed_answers f n (a ∷ rest) = f n a ∷ placed_answers f (n + 1) rest

-- the texts of elements, one after the other. The text of an element may depend on its place, counted from 0
abbrev pub texts : {A : Type 0} → (ℕ → A → List ℕ) → List A → List ℕ
texts text_of xs = concat (placed_answers text_of 0 xs)

-- the lines of all units that a base defines and that have a history at the same place
abbrev pub lines_of_each : {A B : Type 0} → (A → B → List ℕ) → List A → List B → List ℕ
lines_of_each lines_of defs histories = texts (λ place def. option_map_or (lines_of def) (slice_get histories place) []) defs

-- ---- tags

-- the line of a tag, as it is at the end
abbrev pub tag_line : TagDef → TagHistory → List ℕ
tag_line def h = tag_text (tag_line_of def.name h.recs.items h.summary)

-- a line of each tag of a base
abbrev pub tag_lines : List TagDef → List TagHistory → List ℕ
tag_lines defs tags = lines_of_each tag_line defs tags

-- ---- replies

-- the tapes of the tag and of the group at a place
abbrev pub tag_tape : List TagHistory → ℕ → List Entry
tag_tape tags tag = option_map_or (λ h. h.tape.items) (slice_get tags tag) []

abbrev pub group_tape : List GroupHistory → ℕ → List Turn
group_tape groups group = option_map_or (λ h. h.tape.items) (slice_get groups group) []

-- the answer of an entry, and that of a turn; `none` if it answers nothing
abbrev pub answer_of_tag : Option Entry → ReplyText
answer_of_tag (Some (entry.Ask reader row asked reply)) = Tag reply
answer_of_tag other = Row None

abbrev pub answer_of_group : Option Turn → ReplyText
answer_of_group (Some (turn.Ask reader row calc k reply)) = Row reply
answer_of_group other = Row None

-- the reply to the query at a place of the reader at a place. `notes` is the place of the first reader's note
abbrev pub reply_to : Session → ℕ → ℕ → ℕ → Query → ReplyText
reply_to s notes reader place (query.Tag tag asked) =
    answer_of_tag (first_by tag_asker reader (place + 1) (tag_tape s.tags.items tag))
reply_to s notes reader place (query.Row group calc k) =
    answer_of_group (first_by group_asker reader (place + 1) (group_tape s.groups.items group))
reply_to s notes reader place (query.Snap tag) =
    Snap (snap_of s.tags.items tag (told_at s.workers.items (notes + reader) place))

-- the lines of the replies to a reader, and to all
abbrev pub replies_to : Session → ℕ → ℕ → List Query → List ℕ
replies_to s notes reader queries =
    texts (λ place asked. reply_text (reader + 1) (place + 1) (reply_to s notes reader place asked)) queries

abbrev pub reply_lines : Session → ℕ → List (List Query) → List ℕ
reply_lines s notes readers = texts (replies_to s notes) readers

-- ---- groups

-- how many windows the rows of a group have
abbrev pub windows_in : List (List CalcValue) → ℕ
windows_in rows = length (slice_index_or rows 0 [])

-- whether a turn is a refresh
abbrev pub is_refresh : Turn → Bool
is_refresh (turn.Refresh versions) = true
is_refresh other = false

-- the last of the values of a calculation
abbrev pub last_value : List CalcValue → Option CalcValue
last_value values = slice_get values (length values - 1)

-- the last row of the calculation at a place
abbrev pub last_row : List (List CalcValue) → ℕ → Calculation → LastRow
last_row rows place calc = record { calc = calc.name; value = last_value (slice_index_or rows place []) }

-- the last row of each calculation
abbrev pub last_rows : List Calculation → List (List CalcValue) → List LastRow
last_rows calcs rows = placed_answers (last_row rows) 0 calcs

-- the lines of a group, as it is at the end
abbrev pub lines_of_group : GroupDef → GroupHistory → List ℕ
lines_of_group def h =
    let rows = lists_of h.rows.items in
    group_lines def.name (windows_in rows) (count_by is_refresh h.tape.items) h.evals (last_rows def.calcs.calcs rows)

-- the lines of each group of a base
abbrev pub all_group_lines : List GroupDef → List GroupHistory → List ℕ
all_group_lines defs groups = lines_of_each lines_of_group defs groups

-- ---- the whole report

-- the report of a session with so many collectors, whose readers asked these queries
abbrev pub report : Base → ℕ → List (List Query) → Session → List ℕ
report base collectors readers s =
    tag_lines base.tags.items s.tags.items ++ reply_lines s collectors readers ++ all_group_lines base.groups.items s.groups.items
