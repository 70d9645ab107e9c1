-- What the rows of a worker leave on tapes, and where they are due.
use Rattle.std.specs.Prelude.{◌≡◌, ℕ, zero, suc, ◌+◌, ◌-◌, ◌<◌, ◌≤◌, List, [], ◌∷◌, length, filter_map, slice_index_or, Option, None, Some, IsSome, nat_eq, nat_le, if◌then◌else◌}
use Rattle.std.specs.Option.{option_map}
use Rattle.value_rows.specs.{Query, RawRow}
use Rattle.value_rows.specs.declared.asked.Query.TheVariants as query
use Rattle.plant_status.specs.{Seen}
use Rattle.plant_status.specs.declared.mismatch.Seen.TheVariants.{Take, Ask, Row}
use Rattle.session_audit.specs.declared.agenda.Agenda.{Agenda}
use Rattle.session_audit.specs.declared.agenda.Item.{Item}
use Rattle.session_audit.specs.declared.agenda.Rows.{Rows}
use Rattle.session_audit.specs.declared.agenda.Rows.TheVariants.{Takes, Asks, RowAsks}

-- ---- rows

-- f applied to each element and its number; the first one has this number
abbrev pub numbered : {A B : Type 0} → (ℕ → A → B) → ℕ → List A → List B
numbered f n [] = []
numbered f n (a ∷ rest) = f n a ∷ numbered f (n + 1) rest

-- the row of a collector
abbrev pub take_item : ℕ → ℕ → RawRow → Option Item
take_item collector row value = Some (record { unit = value.tag; seen = Take collector row value.point })

-- the number of a row in its phase, if the first n rows are those of an earlier phase: the rows after them count from 1
-- again
abbrev pub number_in : ℕ → ℕ → ℕ
number_in zero row = row
number_in (suc earlier) row = if nat_le row (suc earlier) then row else row - suc earlier

-- the row of a collector that has taken so many rows in an earlier phase
abbrev pub phase_item : ℕ → ℕ → ℕ → RawRow → Option Item
phase_item earlier collector row value = take_item collector (number_in earlier row) value

-- the row of a reader, if it asks about a tag
abbrev pub ask_item : ℕ → ℕ → Query → Option Item
ask_item reader row (query.Tag tag asked) = Some (record { unit = tag; seen = Ask reader row asked })
ask_item reader row other = None

-- the row of a reader, if it asks for the value of a calculation
abbrev pub row_item : ℕ → ℕ → Query → Option Item
row_item reader row (query.Row group calc k) = Some (record { unit = group; seen = Row reader row calc k })
row_item reader row other = None

-- the rows of a worker; they count from 1 in each phase
abbrev pub items_in : ℕ → Rows → List (Option Item)
items_in worker (Takes rows earlier) = numbered (phase_item earlier worker) 1 rows.now
items_in worker (Asks queries) = numbered (ask_item worker) 1 queries.now
items_in worker (RowAsks queries) = numbered (row_item worker) 1 queries.now

abbrev pub items_of : Agenda → List (Option Item)
items_of agenda = items_in agenda.worker agenda.rows

-- ---- rows at a tag or a group

-- what a row leaves at a unit, if it is due there
abbrev pub seen_at : ℕ → Option Item → Option Seen
seen_at unit None = None
seen_at unit (Some item) = if nat_eq item.unit unit then Some item.seen else None

-- what rows leave at a unit, in order
abbrev pub due : ℕ → List (Option Item) → List Seen
due unit items = filter_map (seen_at unit) items

-- what the row at a place leaves at a unit, if it is due there
abbrev pub due_at : ℕ → List (Option Item) → ℕ → Option Seen
due_at unit items place = seen_at unit (slice_index_or items place None)

-- the unit at which the row at a place is due, and what it leaves there
abbrev pub unit_of : List (Option Item) → ℕ → Option ℕ
unit_of items place = option_map (λ item. item.unit) (slice_index_or items place None)

abbrev pub left_by : List (Option Item) → ℕ → Option Seen
left_by items place = option_map (λ item. item.seen) (slice_index_or items place None)

-- the first place, from one on, at which a row is due at a unit, or the number of rows if there is none
pub record IsNext (unit : ℕ) (items : List (Option Item)) (from to : ℕ) : Type 0 where
  pub order : from ≤ to
  pub within : to ≤ length items
  pub none_between : (i : ℕ) → from ≤ i → i < to → due_at unit items i ≡ None
  pub there : to < length items → IsSome (due_at unit items to)
