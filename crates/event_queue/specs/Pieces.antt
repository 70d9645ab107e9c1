-- Bytes that were read from a device, and where they lie in its lane.
use Rattle.std.specs.Prelude.{◌≡◌, ℕ, List, length, take, drop}
use Rattle.disk_model.specs.{IsOpen}
use Rattle.event_queue.specs.Slots.{gate_of, place_of, slot_at}

-- slot k is open, and these are its bytes
pub record IsOpenSlot (slots : ℕ) (bytes : List ℕ) (k : ℕ) (slot : List ℕ) : Type 0 where
  pub opened : IsOpen (gate_of k) bytes
  pub here : slot ≡ slot_at slots bytes k

-- these are all gates, and the bytes of some slots, of which the first is slot `from`
pub record IsPiece (slots : ℕ) (bytes gates : List ℕ) (from : ℕ) (piece : List ℕ) : Type 0 where
  pub gates_here : gates ≡ take slots (drop (gate_of 0) bytes)
  pub slots_here : piece ≡ take (length piece) (drop (place_of slots from) bytes)
