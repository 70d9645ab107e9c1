-- What the code looks up for the queries of readers: the places of answers on tapes, and the points that closed the
-- lines of tags. These definitions are for private functions: no contract of a public function cites them.
use Rattle.std.specs.Prelude.{◌≡◌, ℕ, ◌+◌, ◌<◌, Bool, true, false, ◌||◌, List, [], length, nat_eq, position, slice_get, slice_index_or, if◌then◌else◌, Option, None, Some}
use Rattle.std.specs.List.{list_any}
use Rattle.std.specs.Option.{option_or}
use Rattle.trend_num.specs.{Point}
use Rattle.plant_status.specs.declared.unit.Unit.{Unit as UnitOf}
use Rattle.plant_status.specs.declared.unit.Unit.TheVariants as unit
use Rattle.value_rows.specs.{Query}
use Rattle.value_rows.specs.declared.asked.Query.TheVariants.{Tag, Snap, Row}
use Rattle.tag_cell.specs.{TagHistory}
use Rattle.group_book.specs.{GroupHistory}
use Rattle.session_report.specs.declared.asker.Asker.{Asker}
use Rattle.session_report.specs.Askers.{group_asker, is_by, tag_asker}
use Rattle.session_report.specs.Report.{group_tape, placed_answers, tag_tape}
use Rattle.session_report.specs.Snaps.{held_points}

-- ---- the points of tags

-- whether a query asks for the snapshot of a tag, and whether a reader does
abbrev pub is_snap : ℕ → Query → Bool
is_snap tag (Snap its) = nat_eq its tag
is_snap tag other = false

abbrev pub is_snapped : List (List Query) → ℕ → Bool
is_snapped readers tag = list_any (list_any (is_snap tag)) readers

-- the marked tags are those that were marked before, and those that are wanted
pub record AreMarked (wanted : ℕ → Bool) (old new : List Bool) : Type 0 where
  pub as_many : length new ≡ length old
  pub each : (tag : ℕ) → tag < length old → slice_index_or new tag false ≡ (slice_index_or old tag false || wanted tag)

-- of so many tags, exactly those are marked whose snapshot a reader asks for
pub record AreSnapped (readers : List (List Query)) (tags : ℕ) (marks : List Bool) : Type 0 where
  pub as_many : length marks ≡ tags
  pub each : (tag : ℕ) → tag < tags → slice_index_or marks tag false ≡ is_snapped readers tag

-- for each tag whose snapshot a reader asks for, the points that closed its line after its takes; for any other tag
-- none
abbrev pub held_lists : List (List Query) → List TagHistory → List (List Point)
held_lists readers tags = placed_answers (λ tag h. if is_snapped readers tag then held_points h.tape.items else []) 0 tags

-- if a query asks for the snapshot of a tag, the list has that tag's points
abbrev pub IsHeldFor : Query → List TagHistory → List (List Point) → Type 0
IsHeldFor asked tags held = (tag : ℕ) → asked ≡ Snap tag → slice_index_or held tag [] ≡ held_points (tag_tape tags tag)

-- ---- the places of answers

-- a place or none, for each query of each reader
abbrev pub Table : Type 0
Table = List (List (Option ℕ))

-- the place that a table has for a query of a reader, and the query itself
abbrev pub place_in : Table → ℕ → ℕ → Option ℕ
place_in table reader k = slice_index_or (slice_index_or table reader []) k None

abbrev pub query_in : List (List Query) → ℕ → ℕ → Option Query
query_in readers reader k = slice_get (slice_index_or readers reader []) k

-- the table has an entry for each query
pub record HasPlaceOfEach (readers : List (List Query)) (table : Table) : Type 0 where
  pub as_many : length table ≡ length readers
  pub rows : (reader : ℕ) → length (slice_index_or table reader []) ≡ length (slice_index_or readers reader [])

-- whether a query is about a tag or a group
abbrev pub is_about : UnitOf → Option Query → Bool
is_about (unit.Tag tag) (Some (Tag its asked)) = nat_eq its tag
is_about (unit.Group group) (Some (Row its calc k)) = nat_eq its group
is_about other query = false

-- the query at the place k is the one that `by` asked, and is about this tag or group
pub record IsQueryAbout (readers : List (List Query)) (its : UnitOf) (by : Asker) (k : ℕ) : Type 0 where
  pub row : by.row ≡ k + 1
  pub reader : by.reader < length readers
  pub within : k < length (slice_index_or readers by.reader [])
  pub about : is_about its (query_in readers by.reader k) ≡ true

-- what `by` asked is about another tag or group, or there is no such query
abbrev pub IsAboutOther : List (List Query) → UnitOf → Asker → Type 0
IsAboutOther readers its by = (k : ℕ) → by.row ≡ k + 1 → is_about its (query_in readers by.reader k) ≡ false

-- the place of the first entry of a tape that answers a row of a reader
abbrev pub place_by : {E : Type 0} → (E → Option Asker) → ℕ → ℕ → List E → Option ℕ
place_by asker reader row tape = position (λ e. is_by reader row (asker e)) tape

-- the place of a query about this unit: its old place if it had one, and otherwise the new one. Other queries keep
-- theirs
abbrev pub kept_first : UnitOf → Option Query → Option ℕ → Option ℕ → Option ℕ
kept_first its asked old new = if is_about its asked then option_or old new else old

-- each query about this unit that had no place has that of its first answer on the unit's tape. All others keep theirs
abbrev pub ArePlacesFilled : {E : Type 0} → (E → Option Asker) → List (List Query) → UnitOf → List E → Table → Table → Type 0
ArePlacesFilled asker readers its tape old new = (reader k : ℕ) → place_in new reader k
    ≡ kept_first its (query_in readers reader k) (place_in old reader k) (place_by asker reader (k + 1) tape)

-- the place of the answer to the query that is at the place k of its reader, on the tape of the query's tag or group
abbrev pub answer_place_of : List TagHistory → List GroupHistory → ℕ → ℕ → Option Query → Option ℕ
answer_place_of tags groups reader k (Some (Tag tag asked)) = place_by tag_asker reader (k + 1) (tag_tape tags tag)
answer_place_of tags groups reader k (Some (Row group calc w)) = place_by group_asker reader (k + 1) (group_tape groups group)
answer_place_of tags groups reader k other = None

-- each query has the place of its answer
abbrev pub ArePlaces : List (List Query) → List TagHistory → List GroupHistory → Table → Type 0
ArePlaces readers tags groups table = (reader k : ℕ)
    → place_in table reader k ≡ answer_place_of tags groups reader k (query_in readers reader k)
