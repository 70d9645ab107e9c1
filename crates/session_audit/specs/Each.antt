-- Lists whose elements are related, place by place.
use Rattle.std.specs.Prelude.{◌≡◌, ℕ, List, length, slice_index_or}

-- two lists have the same length, and their elements at each place are related like this
pub record AreEach {C : Type 0} (R : C → C → Type 0) (old new : List C) : Type 0 where
  pub as_many : length new ≡ length old
  pub each : (i : ℕ) (d : C) → R (slice_index_or old i d) (slice_index_or new i d)
