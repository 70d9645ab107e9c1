-- How many rows of workers were found on tapes.
use Rattle.std.specs.Prelude.{◌≡◌, ◌≢◌, ℕ, Bool, false, nat_le, ◌+◌, ◌^◌, ◌<◌, ◌≤◌, List, [], ◌++◌, length, take, filter_map, slice_get, slice_index_or, slice_set, Option, None, Some, IfSome, option_and_then, nat_eq, ⊤, if◌then◌else◌}
use Rattle.std.specs.Option.{option_map_or, unwrap_or}
use Rattle.plant_status.specs.{Seen}
use Rattle.plant_status.specs.declared.mismatch.Seen.TheVariants.{Nothing, Take, Ask, Row}
use Rattle.session_audit.specs.declared.agenda.Item.{Item}
use Rattle.session_audit.specs.declared.kind.Shown.{Shown}
use Rattle.session_audit.specs.Agendas.{IsNext, due, due_at}

-- ---- one worker

-- the rows of a worker, and for each unit the place of the row that is due there next; the rows before it were found
-- there
pub record Reached : Type 0 where
  pub items : List (Option Item)
  pub at : List ℕ

-- the place of the next row of a unit
abbrev pub place_at : Reached → ℕ → ℕ
place_at p unit = slice_index_or p.at unit 0

-- the row that is due next at a unit
abbrev pub next_due : Reached → ℕ → Option Seen
next_due p unit = due_at unit p.items (place_at p unit)

-- what was found at a unit
abbrev pub found : Reached → ℕ → List Seen
found p unit = due unit (take (place_at p unit) p.items)

-- a row was not found yet where it is due
abbrev pub lacks : Reached → ℕ → Bool
lacks p place = option_map_or (λ item. nat_le (place_at p item.unit) place) (slice_index_or p.items place None) false

-- none of the first n rows is missing
abbrev pub IsCaughtUp : ℕ → Reached → Type 0
IsCaughtUp n p = (i : ℕ) → i < n → lacks p i ≡ false

-- from a place on, each row has a link to the next row of its unit, and each unit a link to its first row
pub record AreLinked (items : List (Option Item)) (next at : List ℕ) (place : ℕ) : Type 0 where
  pub first : (u : ℕ) → u < length at → IsNext u items place (slice_index_or at u 0)
  pub links : (i : ℕ) → place ≤ i → IfSome (slice_index_or items i None) (λ item. IsNext item.unit items (i + 1) (slice_index_or next i 0))

-- each row that is due has a known unit and a link to the unit's next row; each unit has a link to its next row
pub record IsChained (items : List (Option Item)) (next at : List ℕ) : Type 0 where
  pub as_many : length next ≡ length items
  pub few : length items < 2 ^ 32
  pub units : (i : ℕ) → IfSome (slice_index_or items i None) (λ item. item.unit < length at)
  pub here : (u : ℕ) → u < length at → IsNext u items (slice_index_or at u 0) (slice_index_or at u 0)
  pub links : (i : ℕ) → IfSome (slice_index_or items i None) (λ item. IsNext item.unit items (i + 1) (slice_index_or next i 0))

-- nothing was found yet at a unit
abbrev pub IsUnfound : ℕ → Reached → Type 0
IsUnfound unit p = IsNext unit p.items 0 (place_at p unit)

-- the next row of a unit was found there
pub record IsAdvanced (unit : ℕ) (old new : Reached) : Type 0 where
  pub place : ℕ
  pub is_next : IsNext unit old.items (place_at old unit + 1) place
  pub changed : new ≡ record old { at = slice_set old.at unit place }

-- ---- all workers, and the tape of a unit

-- the row of a worker that is due next at a unit
abbrev pub expected : List Reached → ℕ → ℕ → Option Seen
expected works worker unit = option_and_then (λ p. next_due p unit) (slice_get works worker)

-- the entry of a worker is the row that was due next at a unit, and the row is now found
pub record IsFollowed (worker unit : ℕ) (kept : Seen) (old new : List Reached) : Type 0 where
  pub before : Reached
  pub after : Reached
  pub there : slice_get old worker ≡ Some before
  pub due_is : next_due before unit ≡ Some kept
  pub advanced : IsAdvanced unit before after
  pub changed : new ≡ slice_set old worker after

-- an entry shows a row of a worker
abbrev pub IsWork : Seen → Type 0
IsWork (Take collector row point) = ⊤
IsWork (Ask reader row query) = ⊤
IsWork (Row reader row calc k) = ⊤
IsWork other = ⊥

-- another row of a worker was due next at a unit, or none
pub record IsOtherDue (works : List Reached) (worker unit : ℕ) (kept told : Seen) : Type 0 where
  pub told_is : told ≡ unwrap_or (expected works worker unit) Nothing
  pub next : (p : Reached) → slice_get works worker ≡ Some p → IsNext unit p.items (place_at p unit) (place_at p unit)
  pub differ : kept ≢ told

-- what was found of a worker
abbrev pub found_of : List Reached → ℕ → ℕ → List Seen
found_of works worker unit = option_map_or (λ p. found p unit) (slice_get works worker) []

-- what an entry shows, if it is of this worker; `work` has what an entry shows
abbrev pub seen_by : {E : Type 0} → (E → Option Shown) → ℕ → E → Option Seen
seen_by work worker e = option_and_then (λ s. if nat_eq s.worker worker then Some s.seen else None) (work e)

-- what a tape shows of a worker
abbrev pub tape_shows : {E : Type 0} → (E → Option Shown) → ℕ → List E → List Seen
tape_shows work worker tape = filter_map (seen_by work worker) tape

-- what the tape of a unit shows of each worker is what was found of its rows there
pub record AreFound {E : Type 0} (work : E → Option Shown) (unit : ℕ) (tape : List E) (works : List Reached) : Type 0 where
  pub each : (worker : ℕ) → tape_shows work worker tape ≡ found_of works worker unit

-- more rows of a unit may be found, and nothing else has changed
pub record IsFurther (unit : ℕ) (old new : Reached) : Type 0 where
  pub same_items : new.items ≡ old.items
  pub as_many : length new.at ≡ length old.at
  pub others : (v : ℕ) → v ≢ unit → place_at new v ≡ place_at old v

-- the same holds for each worker
pub record AreFurther (unit : ℕ) (old new : List Reached) : Type 0 where
  pub as_many : length new ≡ length old
  pub each : (worker : ℕ) (p : Reached) → IsFurther unit (slice_index_or old worker p) (slice_index_or new worker p)

-- the rows of each worker that are due at a unit
abbrev pub due_of : List Reached → ℕ → ℕ → List Seen
due_of works unit worker = option_map_or (λ p. due unit p.items) (slice_get works worker) []

-- a list begins with another one
pub record IsFirstPart {A : Type 0} (part whole : List A) : Type 0 where
  pub rest : List A
  pub is : whole ≡ part ++ rest

-- A worker's entry is not the row that is due next. The entries before it show, of each worker, the first rows that are due
-- there. `kept` is what the entry shows. `told` is the row due next, or nothing.
pub record IsDifference {E : Type 0} (work : E → Option Shown) (rows : ℕ → List Seen) (tape : List E) (place : ℕ) (kept told : Seen)
    : Type 0 where
  pub entry : E
  pub worker : ℕ
  pub there : slice_get tape place ≡ Some entry
  pub shows : work entry ≡ Some (record { worker = worker; seen = kept })
  pub before : (w : ℕ) → IsFirstPart (tape_shows work w (take place tape)) (rows w)
  pub told_is : told ≡ unwrap_or (slice_get (rows worker) (length (tape_shows work worker (take place tape)))) Nothing
  pub differ : kept ≢ told
