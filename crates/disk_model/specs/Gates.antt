-- Gates: a byte that says whether the bytes that it guards count.
use Rattle.std.specs.Prelude.{◌≡◌, ◌≢◌, ◌⊎◌, ◌==◌, ℕ, zero, suc, ◌+◌, ◌<◌, ◌≤◌, max, if◌then◌else◌, List, [], ◌∷◌, length, take, drop, slice_index}
use Rattle.disk_model.specs.Images.{IsOutside}

-- the byte of an open gate; any other byte is that of a closed one
abbrev pub open_byte : ℕ
open_byte = 165

-- the gate at this place is open
abbrev pub IsOpen : ℕ → List ℕ → Type 0
IsOpen gate c = slice_index c gate ≡ open_byte

-- no layout was finished: there is one byte at most, or the gate of the layout is closed
abbrev pub IsNew : List ℕ → Type 0
IsNew c = (length c ≤ 1) ⊎ (slice_index c 0 ≢ open_byte)

-- a layout was finished: there are two bytes or more, and its gate is open
pub record IsBegun (c : List ℕ) : Type 0 where
  pub long : 1 < length c
  pub opened : IsOpen 0 c

-- the gate is there, and closed
pub record IsShut (gate : ℕ) (c : List ℕ) : Type 0 where
  pub there : gate < length c
  pub closed : slice_index c gate ≢ open_byte

-- these bytes are at the place
abbrev pub Holds : ℕ → List ℕ → List ℕ → Type 0
Holds at bytes c = take (length bytes) (drop at c) ≡ bytes

-- new is old except for the guarded bytes and the gate itself; if the gate is open, it guards the bytes whole
pub record IsGuarded (at : ℕ) (bytes : List ℕ) (gate : ℕ) (old new : List ℕ) : Type 0 where
  pub whole : IsOpen gate new → Holds at bytes new
  pub outside : (i : ℕ) → i < length old → IsOutside at (length bytes) i → i ≢ gate → slice_index new i ≡ slice_index old i
  pub no_shorter : length old ≤ length new
  pub no_longer : length new ≤ max (length old) (at + length bytes)

-- the n gates from at on are there, and read as in s
pub record HasGatesOf (s : List ℕ) (at n : ℕ) (c : List ℕ) : Type 0 where
  pub there : at + n ≤ length c
  pub same : (i : ℕ) → at ≤ i → i < at + n → slice_index c i ≡ slice_index s i

-- the n gates from at on are there, and closed
abbrev pub AreShut : ℕ → ℕ → List ℕ → Type 0
AreShut at n c = (i : ℕ) → at ≤ i → i < at + n → IsShut i c

-- new is old except for open ones of the n gates from at on: what reads closed is not touched
pub record IsClosing (at n : ℕ) (old new : List ℕ) : Type 0 where
  pub same_length : length new ≡ length old
  pub same : (i : ℕ) → IsOutside at n i ⊎ (slice_index old i ≢ open_byte) → slice_index new i ≡ slice_index old i

-- 1 if the gate is open, and else 0
abbrev pub open_gate : ℕ → List ℕ → ℕ
open_gate gate c = if slice_index c gate == open_byte then 1 else 0

-- how many of the n gates from at on are open
abbrev pub open_gates : ℕ → ℕ → List ℕ → ℕ
open_gates at zero c = 0
open_gates at (suc n) c = open_gates at n c + open_gate (at + n) c

-- how many calls leave a closed gate as the first byte, synced: a write, if there is no byte or the gate is open, and a sync
abbrev pub closing_calls : List ℕ → ℕ
closing_calls [] = 2
closing_calls (gate ∷ rest) = open_gate 0 (gate ∷ rest) + 1

-- how many calls begin a layout: those that close its gate, and four that write the rest and open the gate
abbrev pub layout_calls : List ℕ → ℕ
layout_calls c = closing_calls c + 4
