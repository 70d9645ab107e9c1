-- What the tapes of all units (tags or groups) show of workers, and how many rows of these were found.
use Rattle.std.specs.Prelude.{◌≡◌, ◌≢◌, ℕ, ◌^◌, ◌<◌, List, [], length, slice_get, slice_index_or, Option}
use Rattle.std.specs.Option.{option_map_or}
use Rattle.plant_status.specs.{Seen}
use Rattle.session_audit.specs.declared.agenda.Item.{Item}
use Rattle.session_audit.specs.declared.kind.Shown.{Shown}
use Rattle.session_audit.specs.Agendas.{due, numbered}
use Rattle.session_audit.specs.Found.{AreFound, IsCaughtUp, IsFirstPart, Reached, tape_shows}

-- ---- what tapes show of workers; `tape_of` has the tape of a unit

-- the progress of each worker agrees with each tape
pub record AreTapesFound {C E : Type 0} (tape_of : C → List E) (work : E → Option Shown) (units : List C)
    (works : List Reached) : Type 0 where
  pub each : (unit : ℕ) (d : C) → unit < length units → AreFound work unit (tape_of (slice_index_or units unit d)) works

-- the rows of a file that are due at a unit, as the worker's entries show them
abbrev pub file_due : {A : Type 0} → (ℕ → ℕ → A → Option Item) → List (List A) → ℕ → ℕ → List Seen
file_due item_of files worker unit =
    option_map_or (λ rows. due unit (numbered (item_of worker) 1 rows)) (slice_get files worker) []

-- each tape shows exactly the rows of each worker that are due there, and none of any other worker
pub record AreTapesWhole {C E A : Type 0} (tape_of : C → List E) (work : E → Option Shown)
    (item_of : ℕ → ℕ → A → Option Item) (files : List (List A)) (units : List C) : Type 0 where
  pub each : (unit worker : ℕ) (d : C) → unit < length units
      → tape_shows work worker (tape_of (slice_index_or units unit d)) ≡ file_due item_of files worker unit

-- each tape shows, of each worker, the first of its rows that are due there, in their order, and nothing else; of any
-- other worker it shows nothing
pub record AreTapesBegun {C E A : Type 0} (tape_of : C → List E) (work : E → Option Shown)
    (item_of : ℕ → ℕ → A → Option Item) (files : List (List A)) (units : List C) : Type 0 where
  pub each : (unit worker : ℕ) (d : C) → unit < length units
      → IsFirstPart (tape_shows work worker (tape_of (slice_index_or units unit d))) (file_due item_of files worker unit)

-- a row of some worker that is due at a unit is not on the unit's tape
pub record LacksRow {E A : Type 0} (work : E → Option Shown) (item_of : ℕ → ℕ → A → Option Item) (files : List (List A))
    (unit : ℕ) (tape : List E) : Type 0 where
  pub worker : ℕ
  pub fewer : length (tape_shows work worker tape) < length (file_due item_of files worker unit)

-- ---- the rows of workers

-- each worker's progress is over the rows of its file, at so many units
pub record AreOver {A : Type 0} (item_of : ℕ → ℕ → A → Option Item) (many : ℕ) (files : List (List A)) (works : List Reached)
    : Type 0 where
  pub few : length files < 2 ^ 32
  pub as_many : length works ≡ length files
  pub items : (worker : ℕ) (rows : List A) (p : Reached) → worker < length files
      → (slice_index_or works worker p).items ≡ numbered (item_of worker) 1 (slice_index_or files worker rows)
  pub units : (worker : ℕ) (p : Reached) → worker < length works → length (slice_index_or works worker p).at ≡ many

-- the progress of this worker is over these rows, and each worker's progress has so many units
pub record IsOver {A : Type 0} (item_of : ℕ → ℕ → A → Option Item) (many worker : ℕ) (rows : List A) (works : List Reached)
    : Type 0 where
  pub there : worker < length works
  pub items : (p : Reached) → (slice_index_or works worker p).items ≡ numbered (item_of worker) 1 rows
  pub units : (w : ℕ) (p : Reached) → w < length works → length (slice_index_or works w p).at ≡ many

-- none of the first rows of this worker is missing
abbrev pub IsCaughtTo : ℕ → ℕ → List Reached → Type 0
IsCaughtTo place worker works = (p : Reached) → IsCaughtUp place (slice_index_or works worker p)

-- the progress of each other worker has not changed
pub record AreOthersSame (worker : ℕ) (old new : List Reached) : Type 0 where
  pub as_many : length new ≡ length old
  pub same : (w : ℕ) (p : Reached) → w ≢ worker → slice_index_or new w p ≡ slice_index_or old w p
