-- Where a tag's device first breaks the layout. There are eight kinds of damage. Each is looked for only if there is
-- none of those before it.
use Rattle.std.specs.Prelude.{◌≡◌, ℕ, ◌+◌, ◌*◌, ◌<◌, ◌≤◌, List, length, take, map, slice_index, Option, None, Some}
use Rattle.trend_num.specs.{most_records, Rec, Summary, TagDef}
use Rattle.trend_model.specs.{Raw, ArePartsOk}
use Rattle.trend_model.specs.State.{replay}
use Rattle.disk_model.specs.{IsOpen, IsBegun}
use Rattle.archive_file.specs.{HasRecords, IsDamage}
use Rattle.event_queue.specs.{gate_of, place_of, batch_at, lane_points, points_before, points_beyond, IsLane, IsLaneDamage}
use Rattle.device_layout.specs.declared.slot.Slot.{Slot}
use Rattle.device_layout.specs.Headers.{tuning_in, slots_in, IsHeaderBroken}
use Rattle.device_layout.specs.SlotFields.{IsSlotBroken}
use Rattle.device_layout.specs.Recovery.{header_of, log_place, summary_place, slot_bytes, counting, HasSummary, recovered_tuning, start_of, AllFit, IsOfTag, IsStored}

-- the device ends before n bytes
pub record EndsBefore (n : ℕ) (c : List ℕ) (a : ℕ) (byte : Option ℕ) : Type 0 where
  pub short : length c < n
  pub place : a ≡ length c
  pub none_there : byte ≡ None

-- this byte is at that place
pub record StandsThere (c : List ℕ) (a : ℕ) (byte : Option ℕ) : Type 0 where
  pub within : a < length c
  pub byte_there : byte ≡ Some (slice_index c a)

-- the header is there, and a field of it is broken
pub record IsHeaderDamage (c : List ℕ) (a : ℕ) (byte : Option ℕ) : Type 0 where
  pub opened : IsOpen 0 c
  pub long : 128 ≤ length c
  pub broken : IsHeaderBroken (header_of c) a byte

-- the layout is not as long as it says
pub record IsLayoutDamage (def : TagDef) (c : List ℕ) (a : ℕ) (byte : Option ℕ) : Type 0 where
  pub tag : IsOfTag def c
  pub ends : EndsBefore (log_place c) c a byte

-- the summary that counts is broken, so many bytes after its beginning
pub record IsSummaryDamage (def : TagDef) (c : List ℕ) (a : ℕ) (byte : Option ℕ) (i : Slot) (o : ℕ) : Type 0 where
  pub tag : IsOfTag def c
  pub long : log_place c ≤ length c
  pub counts : counting c ≡ Some i
  pub broken : IsSlotBroken (slot_bytes c i) o byte
  pub place : a ≡ summary_place i + o

-- the log is broken, or ends before all records that the summary counts
pub record IsLogDamage (def : TagDef) (c : List ℕ) (a : ℕ) (byte : Option ℕ) (s : Summary) : Type 0 where
  pub tag : IsOfTag def c
  pub long : log_place c ≤ length c
  pub summary : HasSummary c (counting c) s
  pub broken : IsDamage c (log_place c) s.records a byte

-- the records and the summary cannot be those of a tag; the place of this damage is the summary's beginning
pub record ArePartsDamaged (def : TagDef) (c : List ℕ) (a : ℕ) (byte : Option ℕ) (rs : List Rec) (s : Summary)
    (i : Slot) : Type 0 where
  pub tag : IsOfTag def c
  pub long : log_place c ≤ length c
  pub counts : counting c ≡ Some i
  pub summary : HasSummary c (Some i) s
  pub records : HasRecords c (log_place c) s.records rs
  pub broken : ArePartsOk (recovered_tuning (tuning_in (header_of c)) s.tuning) def.step rs s → ⊥
  pub place : a ≡ summary_place i
  pub there : StandsThere c a byte

-- the lane is broken
pub record IsQueueDamage (def : TagDef) (c : List ℕ) (a : ℕ) (byte : Option ℕ) (rs : List Rec)
    (s : Summary) : Type 0 where
  pub stored : IsStored def c rs s
  pub broken : IsLaneDamage (slots_in (header_of c)) c s.taken a byte

-- value number n of the lane is at this place
pub record IsValuePlace (slots : ℕ) (c : List ℕ) (taken n a j i : ℕ) : Type 0 where
  pub slot : j < slots
  pub number : n ≡ length (points_before slots c taken j) + i
  pub within : i < length (points_beyond taken (batch_at slots c j))
  pub opened : IsOpen (gate_of j) c
  pub place : a ≡ place_of slots j + (10 + 16 * i)

-- value number n of the lane finds no room, after others that do
pub record IsValueDamage (def : TagDef) (c : List ℕ) (a : ℕ) (byte : Option ℕ) (rs : List Rec) (s : Summary)
    (n j i : ℕ) : Type 0 where
  pub stored : IsStored def c rs s
  pub lane : IsLane (slots_in (header_of c)) c s.taken (slots_in (header_of c))
  pub fit : AllFit def.step (start_of c rs s) (map Raw (take n (lane_points (slots_in (header_of c)) c s.taken)))
  pub full : most_records < length (replay def.step (start_of c rs s)
      (map Raw (take n (lane_points (slots_in (header_of c)) c s.taken)))).records + 2
  pub at : IsValuePlace (slots_in (header_of c)) c s.taken n a j i
  pub there : StandsThere c a byte

-- the first damage of a tag's device that is not new
pub data IsTagDamage (def : TagDef) (c : List ℕ) (a : ℕ) (byte : Option ℕ) : Type 0 where
  EndsShort : IsBegun c → EndsBefore 128 c a byte → IsTagDamage def c a byte
  BadHeader : IsHeaderDamage c a byte → IsTagDamage def c a byte
  BadLayout : IsLayoutDamage def c a byte → IsTagDamage def c a byte
  BadSummary : (i : Slot) (o : ℕ) → IsSummaryDamage def c a byte i o → IsTagDamage def c a byte
  BadLog : (s : Summary) → IsLogDamage def c a byte s → IsTagDamage def c a byte
  BadParts : (rs : List Rec) (s : Summary) (i : Slot) → ArePartsDamaged def c a byte rs s i → IsTagDamage def c a byte
  BadQueue : (rs : List Rec) (s : Summary) → IsQueueDamage def c a byte rs s → IsTagDamage def c a byte
  BadValue : (rs : List Rec) (s : Summary) (n j i : ℕ) → IsValueDamage def c a byte rs s n j i
      → IsTagDamage def c a byte
