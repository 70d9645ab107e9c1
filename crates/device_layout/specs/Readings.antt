-- What was read of a tag's device, and why a device is not opened.
use Rattle.std.specs.Prelude.{◌≡◌, ◌≢◌, ℕ, ◌+◌, ◌<◌, ◌≤◌, List, length, Some, Err}
use Rattle.trend_num.specs.{most_records, Summary, Tuning, TagDef}
use Rattle.trend_model.specs.State.{State}
use Rattle.disk_model.specs.{Trace, CountsFault, IsOpen, Shows}
use Rattle.device_layout.specs.declared.failure.OpenNo.{OpenNo}
use Rattle.device_layout.specs.declared.failure.OpenNo.TheVariants.{DeviceFault, Damaged, OtherTag, Full, WantOfMemory}
use Rattle.archive_file.specs.{ScanNo, HasRecords}
use Rattle.archive_file.specs.declared.failure.ScanNo.TheVariants as scan
use Rattle.device_layout.specs.Headers.{def_in, tuning_in, slots_in, IsHeader}
use Rattle.device_layout.specs.declared.header.Header.{Header}
use Rattle.device_layout.specs.declared.slot.Slot.{Slot}
use Rattle.device_layout.specs.declared.layout_reader.Stored.{Stored}
use Rattle.device_layout.specs.Recovery.{header_of, log_place, counting, HasSummary, recovered_tuning, IsOfTag, IsStored, Recovers}
use Rattle.device_layout.specs.Damages.{IsTagDamage}

-- a whole header of another tag, or of another kind
pub record IsOther (def : TagDef) (c : List ℕ) (found wanted : TagDef) : Type 0 where
  pub opened : IsOpen 0 c
  pub header : IsHeader (header_of c)
  pub found_is : found ≡ def_in (header_of c)
  pub wanted_is : wanted ≡ def
  pub differs : (found.name ≡ def.name) → (found.step ≡ def.step) → ⊥

-- what is recovered has to be retuned, and two more records would be too many
pub record IsFull (def : TagDef) (c : List ℕ) (records : ℕ) (s : State) : Type 0 where
  pub recovered : Recovers def c s
  pub other : s.summary.tuning ≢ Some def.tuning
  pub records_are : records ≡ length s.records
  pub full : most_records < length s.records + 2

-- why a device is not opened
abbrev pub IsCause : TagDef → Trace → OpenNo → Type 0
IsCause def o DeviceFault = Unit {0}
IsCause def o (Damaged a byte) = Shows o (λ c. IsTagDamage def c a byte)
IsCause def o (OtherTag found wanted) = Shows o (λ c. IsOther def c found wanted)
IsCause def o (Full records) = Shows o (λ c. (s : State) × IsFull def c records s)
IsCause def o WantOfMemory = Unit {0}

-- the faults that are counted if a device is not opened
abbrev pub CountsRefusal : OpenNo → ℕ → ℕ → Type 0
CountsRefusal why before now = CountsFault {T = Unit {0}} (Err why) DeviceFault before now

-- this is the content of the header
pub record HasHeader (h : Header) (c : List ℕ) : Type 0 where
  pub header : IsHeader (header_of c)
  pub def_is : h.def ≡ def_in (header_of c)
  pub slots_are : h.slots ≡ slots_in (header_of c)

-- the layout is whole and is this tag's; it has so many lane slots, and was made with this tuning
pub record HasLayout (def : TagDef) (slots : ℕ) (made : Tuning) (c : List ℕ) : Type 0 where
  pub tag : IsOfTag def c
  pub long : log_place c ≤ length c
  pub slots_are : slots ≡ slots_in (header_of c)
  pub made_with : made ≡ tuning_in (header_of c)

-- this summary counts, and this tuning is in force
pub record CountsSummary (def : TagDef) (slots : ℕ) (slot : Slot) (s : Summary) (u : Tuning)
    (c : List ℕ) : Type 0 where
  pub tag : IsOfTag def c
  pub long : log_place c ≤ length c
  pub slots_are : slots ≡ slots_in (header_of c)
  pub counts : counting c ≡ Some slot
  pub summary : HasSummary c (Some slot) s
  pub tuning : u ≡ recovered_tuning (tuning_in (header_of c)) s.tuning

-- this was found on a layout with so many lane slots: the summary that counts, the records that it counts, and the
-- tuning in force
pub record IsFoundOn (def : TagDef) (slots : ℕ) (x : Stored) (c : List ℕ) : Type 0 where
  pub tag : IsOfTag def c
  pub long : log_place c ≤ length c
  pub summary : HasSummary c (counting c) x.summary
  pub records : HasRecords c (log_place c) x.summary.records x.recs.items
  pub slots_are : slots ≡ slots_in (header_of c)
  pub slot : counting c ≡ x.slot
  pub tuning : x.tuning ≡ recovered_tuning (tuning_in (header_of c)) x.summary.tuning

-- the same, if the records and the summary can be those of a tag
pub record IsReadFrom (def : TagDef) (slots : ℕ) (x : Stored) (c : List ℕ) : Type 0 where
  pub stored : IsStored def c x.recs.items x.summary
  pub slots_are : slots ≡ slots_in (header_of c)
  pub slot : counting c ≡ x.slot
  pub tuning : x.tuning ≡ recovered_tuning (tuning_in (header_of c)) x.summary.tuning

-- the refusal to open a device whose records could not be read
abbrev pub refusal_of : ScanNo → OpenNo
refusal_of scan.DeviceFault = DeviceFault
refusal_of (scan.Damaged a byte) = Damaged a byte
refusal_of scan.WantOfMemory = WantOfMemory
