-- Was the first byte of a device damaged? What the bytes of a device in use tell.
use Rattle.std.specs.Prelude.{◌⊎◌, ◌≢◌, ◌<◌, ◌+◌, ℕ, eqb, List, [], ◌∷◌, length, slice_index, take, drop, bytes_eq, Contains, IsTrue, codes, if◌then◌else◌}
use Rattle.std.specs.Int.{w32, from_be_bytes}
use Rattle.std.specs.List.{ends_with}
use Rattle.disk_model.specs.{open_byte}

-- the bytes from one place to another, as far as there are any
abbrev pub part : List ℕ → ℕ → ℕ → List ℕ
part bytes from to = drop from (take to bytes)

-- the number in four bytes, or 0 if these are not four
abbrev pub number_of : List ℕ → ℕ
number_of (a ∷ b ∷ c ∷ d ∷ []) = from_be_bytes w32 (a ∷ b ∷ c ∷ d ∷ [])
number_of other = 0

-- the gates after the first byte that a making leaves closed: of a tag's layout those of its summaries and of its lane,
-- and of a log's layout that of its first block
abbrev pub later_gates : List ℕ → List ℕ
later_gates bytes =
    if bytes_eq (part bytes 1 5) (codes "PHT1") then part bytes 384 (400 + number_of (part bytes 110 114)) else
    if bytes_eq (part bytes 1 5) (codes "PHC1") then part bytes (9 + number_of (part bytes 5 9)) (10 + number_of (part bytes 5 9)) else []

-- a device was in use, and its first byte is no longer its open gate: that byte is not 00, or a later gate was opened
pub record IsGateLost (bytes : List ℕ) : Type 0 where
  pub long : 1 < length bytes
  pub closed : slice_index bytes 0 ≢ open_byte
  pub used : (slice_index bytes 0 ≢ 0) ⊎ Contains (later_gates bytes) open_byte

-- a tag's device begins with no open gate, and is longer than its making leaves it
pub record IsPastMaking (name bytes : List ℕ) : Type 0 where
  pub of_tag : IsTrue (ends_with eqb name (codes ".tag"))
  pub long : 66640 < length bytes
  pub closed : slice_index bytes 0 ≢ open_byte
