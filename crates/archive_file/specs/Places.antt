-- Records at a place of a device, and where they first break the layout.
use Rattle.std.specs.Prelude.{◌≡◌, ◌≢◌, ◌⊎◌, ℕ, ◌+◌, ◌*◌, ◌<◌, ◌≤◌, List, [], ◌∷◌, ◌++◌, length, take, drop, slice_index, Option, None, Some, unsigned_abs}
use Rattle.trend_num.specs.{Kind, Rec, InRange, last_time, largest_value}
use Rattle.archive_file.specs.Fields.{point_at}
use Rattle.archive_file.specs.Records.{kind_byte, recs_image}

-- each record's point is in range
abbrev pub AreInRange : List Rec → Type 0
AreInRange [] = Unit {0}
AreInRange (r ∷ rs) = InRange r.point × AreInRange rs

-- these bytes are records in range, one after the other
pub record AreRecords (rs : List Rec) (bytes : List ℕ) : Type 0 where
  pub in_range : AreInRange rs
  pub image : recs_image rs ≡ bytes

-- there are `count` records at the place
pub record HasRecords (bytes : List ℕ) (at count : ℕ) (rs : List Rec) : Type 0 where
  pub counted : length rs ≡ count
  pub records : AreRecords rs (take (17 * count) (drop at bytes))

-- the `count` records at the place were added at the end of a list
pub record Adds (bytes : List ℕ) (at count : ℕ) (old new : List Rec) : Type 0 where
  pub added : List Rec
  pub behind : new ≡ old ++ added
  pub there : HasRecords bytes at count added

-- the byte k of these 17 is the first byte of the first field that breaks a record's layout. The fields are the kind,
-- the time and the value
abbrev pub BreaksAt : List ℕ → ℕ → Type 0
BreaksAt b k =
    ((k ≡ 0) × ((kind : Kind) → slice_index b 0 ≢ kind_byte kind))
    ⊎ (((k ≡ 1) × ((kind : Kind) × (slice_index b 0 ≡ kind_byte kind))
    × (last_time < (point_at (drop 1 b)).t))
    ⊎ ((k ≡ 9) × ((kind : Kind) × (slice_index b 0 ≡ kind_byte kind)) × ((point_at (drop 1 b)).t ≤ last_time)
    × (largest_value < unsigned_abs (point_at (drop 1 b)).v)))

-- the device ends before the `count` records do
pub record IsTooShort (bytes : List ℕ) (at count a : ℕ) (byte : Option ℕ) : Type 0 where
  pub short : length bytes < at + 17 * count
  pub place : a ≡ length bytes
  pub byte_there : byte ≡ None

-- after these records comes one with a field that breaks the layout
pub record IsRecordBroken (bytes : List ℕ) (at count a : ℕ) (byte : Option ℕ) (rs : List Rec) (k : ℕ) : Type 0 where
  pub within : at + 17 * count ≤ length bytes
  pub before : length rs < count
  pub records : AreRecords rs (take (17 * length rs) (drop at bytes))
  pub breaks : BreaksAt (take 17 (drop (at + 17 * length rs) bytes)) k
  pub place : a ≡ at + 17 * length rs + k
  pub byte_there : byte ≡ Some (slice_index bytes a)

-- the first damage in `count` records at the place
abbrev pub IsDamage : List ℕ → ℕ → ℕ → ℕ → Option ℕ → Type 0
IsDamage bytes at count a byte = IsTooShort bytes at count a byte
    ⊎ ((rs : List Rec) × (k : ℕ) × IsRecordBroken bytes at count a byte rs k)
