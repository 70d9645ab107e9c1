-- Rows that a tape lacks, and the entries that are added for them.
use Rattle.std.specs.Prelude.{◌≡◌, ℕ, ◌<◌, List, [], ◌∷◌, ◌++◌, length, slice_get, slice_index_or, Option, None, Some, IfSome, IsSome, true}
use Rattle.plant_status.specs.{Seen}
use Rattle.session_audit.specs.declared.agenda.Item.{Item}
use Rattle.session_audit.specs.declared.kind.Shown.{Shown}
use Rattle.session_audit.specs.Agendas.{IsNext}
use Rattle.session_audit.specs.Found.{Reached, lacks, next_due, place_at}

-- a row is due at this unit
pub record IsDueAt (item : Option Item) (unit : ℕ) : Type 0 where
  pub seen : Seen
  pub is : item ≡ Some (record { unit = unit; seen = seen })

-- the tape of this unit lacks a row
pub record IsLacking (p : Reached) (place unit : ℕ) : Type 0 where
  pub due : IsDueAt (slice_index_or p.items place None) unit
  pub missing : lacks p place ≡ true
  pub next : IsNext unit p.items (place_at p unit) (place_at p unit)
  pub known : unit < length p.at

-- a unit's tape has one entry more, which shows what the row of a worker leaves there
pub record IsAdded {C E : Type 0} (tape_of : C → List E) (shows : E → Option Shown) (worker : ℕ) (item : Option Item) (old new : C)
    : Type 0 where
  pub entry : E
  pub shown : IfSome item (λ i. shows entry ≡ Some (record { worker = worker; seen = i.seen }))
  pub tape : tape_of new ≡ tape_of old ++ entry ∷ []

-- nothing could be added to this unit, although a row of some worker is due there
pub record IsStopped {C N : Type 0} (refuses : C → N → Type 0) (units : List C) (works : List Reached) (unit : ℕ) (why : N)
    : Type 0 where
  pub one : C
  pub there : slice_get units unit ≡ Some one
  pub refused : refuses one why
  pub worker : ℕ
  pub working : worker < length works
  pub due : (p : Reached) → IsSome (next_due (slice_index_or works worker p) unit)
