-- What was read of a device is on it: the header, the slot that counts, its summary, and where they are broken.
use Rattle.std.proofs.Common.{◌≡◌, ℕ, ◌+◌, ◌<◌, ◌≤◌, Bool, List, length, take, drop, get_or, Option, Some, refl, sym, ◌∙◌, ap, subst, arith, nat_le, nat_eq}
use Rattle.std.proofs.lemmas.List.{take-take, get_or-take, get_or-drop}
use Rattle.std.specs.Int.{w64, from_be_bytes}
use Rattle.trend_num.specs.{declared.archive.Summary.Summary, declared.archive.Rec.Rec, declared.tuning.Tuning.Tuning, declared.tag_def.TagDef.TagDef}
use Rattle.trend_model.specs.{ArePartsOk}
use Rattle.disk_model.specs.{Gates.open_byte, Gates.IsOpen, Traces.Trace, Calls.Shows}
use Rattle.archive_file.specs.{Places.HasRecords, Places.IsDamage, Summaries.summary_image, Summaries.IsSummary, declared.failure.ScanNo.ScanNo}
use Rattle.event_queue.specs.{lane_end}
use Rattle.device_layout.specs.{declared.header.Header.Header, declared.layout_reader.Stored.Stored, declared.slot.Slot.Slot, def_in, slots_in, IsHeader, IsHeaderBroken, IsSlotBroken, header_of, summary_place, slot_bytes, taken_in, chosen}
use Rattle.device_layout.specs.{counting, recovered_tuning, IsOfTag, IsTagDamage, IsOther, HasHeader, HasLayout, CountsSummary, IsFoundOn, IsCause, refusal_of, Damages.IsTagDamage.BadHeader, Damages.IsTagDamage.BadSummary}
use Rattle.device_layout.specs.{Damages.IsTagDamage.BadLog, Damages.IsTagDamage.BadParts, declared.failure.OpenNo.OpenNo}
use Rattle.device_layout.specs.declared.slot.Slot.TheVariants.{First, Second}
use Rattle.archive_file.specs.declared.failure.ScanNo.TheVariants as scan

-- ---- causes

-- the cause of a refusal is one since before some calls that changed nothing
pub cause_before : (def : TagDef) (o p : Trace) (why : OpenNo) → p ≡ o → IsCause def p why → IsCause def o why
cause_before def o p why same cause = subst (λ x. IsCause def x why) same cause

-- the cause of a scan's refusal
pub cause_of_scan : (def : TagDef) (o : Trace) (why : ScanNo) (result : OpenNo) → result ≡ refusal_of why
    → ((at : ℕ) (byte : Option ℕ) → why ≡ scan.Damaged at byte → Shows o (λ c. IsTagDamage def c at byte))
    → IsCause def o result
cause_of_scan def o scan.DeviceFault result is damage = subst (IsCause def o) (sym is) tt
cause_of_scan def o (scan.Damaged at byte) result is damage = subst (IsCause def o) (sym is) (damage at byte refl)
cause_of_scan def o scan.WantOfMemory result is damage = subst (IsCause def o) (sym is) tt

-- another tag's device
pub is_other : (def : TagDef) (c : List ℕ) (h : Header) → IsOpen 0 c → HasHeader h c
    → ((h.def.name ≡ def.name) → (h.def.step ≡ def.step) → ⊥) → IsOther def c h.def def
is_other def c h opened has differs = grind arith

-- the same at the same place
pub here_at : (bytes : List ℕ) (a at : ℕ) (c : List ℕ) → a ≡ at → bytes ≡ take (length bytes) (drop a c)
    → bytes ≡ take (length bytes) (drop at c)
here_at bytes a at c same here = subst (λ k. bytes ≡ take (length bytes) (drop k c)) same here

-- 128 bytes at a place
here_128 : (bytes : List ℕ) (at : ℕ) (c : List ℕ) → length bytes ≡ 128 → bytes ≡ take (length bytes) (drop at c)
    → take 128 (drop at c) ≡ bytes
here_128 bytes at c size here = ap (λ n. take n (drop at c)) (sym size) ∙ sym here

-- the byte there that has number k among those read
pub byte_here : (bytes : List ℕ) (at : ℕ) (c : List ℕ) (k : ℕ) → k < length bytes
    → bytes ≡ take (length bytes) (drop at c) → get_or c (at + k) 0 ≡ get_or bytes k 0
byte_here bytes at c k within here = grind (arith, get_or-take, get_or-drop)

-- ---- the header

pub has_header : (bytes c : List ℕ) (h : Header) → length bytes ≡ 128 → bytes ≡ take (length bytes) (drop 0 c)
    → IsHeader bytes → h.def ≡ def_in bytes → h.slots ≡ slots_in bytes → HasHeader h c
has_header bytes c h size here ok def_is slots_are = grind (arith, here_128)

pub header_broken : (def : TagDef) (bytes c : List ℕ) (at : ℕ) (byte : Option ℕ) → length bytes ≡ 128
    → bytes ≡ take (length bytes) (drop 0 c) → 128 ≤ length c → IsHeaderBroken bytes at byte → IsOpen 0 c
    → IsTagDamage def c at byte
header_broken def bytes c at byte size here long broken opened = BadHeader (record {
  opened = opened;
  long = long;
  broken = subst (λ l. IsHeaderBroken l at byte) (sym (here_128 bytes 0 c size here)) broken;
})

pub of_tag : (def : TagDef) (c : List ℕ) (h : Header) → IsOpen 0 c → HasHeader h c → h.def.name ≡ def.name
    → h.def.step ≡ def.step → IsOfTag def c
of_tag def c h opened has name step = grind arith

-- ---- the summary that counts

-- the number that a summary in a slot begins with
taken_read : (i : Slot) (c bytes : List ℕ) → length bytes ≡ 8 → bytes ≡ take (length bytes) (drop (summary_place i) c)
    → taken_in c i ≡ from_be_bytes w64 bytes
taken_read i c bytes size here = grind (arith, take-take)

pub counting_read : (c first second gates : List ℕ) (m n : ℕ) (result : Option Slot) → length first ≡ 8
    → length second ≡ 8
    → length gates ≡ 2 → first ≡ take (length first) (drop 128 c) → second ≡ take (length second) (drop 256 c)
    → gates ≡ take (length gates) (drop 384 c) → m ≡ from_be_bytes w64 first → n ≡ from_be_bytes w64 second
    → result ≡ chosen (nat_eq (get_or gates 0 0) open_byte) (nat_eq (get_or gates 1 0) open_byte) (nat_le n m)
    → counting c ≡ result
counting_read c first second gates m n result first_size second_size gates_size first_here second_here gates_here m_is n_is is =
    let gate_0 : get_or c 384 0 ≡ get_or gates 0 0 = byte_here gates 384 c 0 (omega (arith, gates_size)) gates_here in
    let gate_1 : get_or c 385 0 ≡ get_or gates 1 0 = byte_here gates 384 c 1 (omega (arith, gates_size)) gates_here in
    grind (arith, taken_read Second c second second_size second_here, taken_read First c first first_size first_here)

-- a summary slot ends before the lane begins
slot_end : (i : Slot) → summary_place i + 128 ≤ 384
slot_end i = grind arith

-- a lane ends after the first 400 bytes
front_end : (slots : ℕ) → 400 ≤ lane_end slots
front_end slots = omega arith

pub summary_broken : (def : TagDef) (slots : ℕ) (made : Tuning) (i : Slot) (bytes c : List ℕ) (at : ℕ) (byte : Option ℕ)
    → length bytes ≡ 128 → bytes ≡ take (length bytes) (drop (summary_place i) c) → IsSlotBroken bytes at byte
    → HasLayout def slots made c → counting c ≡ Some i → IsTagDamage def c (summary_place i + at) byte
summary_broken def slots made i bytes c at byte size here broken has counts = BadSummary i at (record {
  tag = has.tag;
  long = has.long;
  counts = counts;
  broken = subst (λ l. IsSlotBroken l at byte) (sym (here_128 bytes (summary_place i) c size here)) broken;
  place = refl;
})

-- ---- the records

pub records_broken : (def : TagDef) (slots : ℕ) (i : Slot) (s : Summary) (u : Tuning) (c : List ℕ) (a : ℕ)
    (byte : Option ℕ)
    → IsDamage c (lane_end slots) s.records a byte → CountsSummary def slots i s u c → IsTagDamage def c a byte
records_broken def slots i s u c a byte damage has = BadLog s (grind arith)

pub parts_broken : (def : TagDef) (slots : ℕ) (i : Slot) (s : Summary) (u : Tuning) (step : Bool)
    (rs : List Rec) (first c : List ℕ)
    → def.step ≡ step → HasRecords c (lane_end slots) s.records rs → (ArePartsOk u step rs s → ⊥) → length first ≡ 1
    → first ≡ take (length first) (drop (summary_place i) c) → CountsSummary def slots i s u c
    → IsTagDamage def c (summary_place i) (Some (get_or first 0 0))
parts_broken def slots i s u step rs first c same_step records broken size here has = BadParts rs s i (record {
  tag = has.tag;
  long = has.long;
  counts = has.counts;
  summary = has.summary;
  records = subst (λ n. HasRecords c (lane_end n) s.records rs) has.slots_are records;
  broken = grind arith;
  place = refl;
  there = record {
    within = omega (arith, has.long, front_end (slots_in (header_of c)), slot_end i);
    byte_there = ap Some (sym (ap (λ k. get_or c k 0) (omega arith) ∙ byte_here first (summary_place i) c 0
        (omega (arith, size)) here));
  };
})

-- ---- all that is stored

-- a summary that was read counts
pub counts_summary : (def : TagDef) (slots : ℕ) (made : Tuning) (i : Slot) (s : Summary) (u : Tuning) (c : List ℕ)
    → HasLayout def slots made c → counting c ≡ Some i → IsSummary s → slot_bytes c i ≡ summary_image s
    → u ≡ recovered_tuning made s.tuning → CountsSummary def slots i s u c
counts_summary def slots made i s u c has counts whole bytes tuning = grind arith

pub stored_some : (def : TagDef) (slots : ℕ) (i : Slot) (s : Summary) (u : Tuning) (x : Stored) (c : List ℕ)
    → CountsSummary def slots i s u c → HasRecords c (lane_end slots) s.records x.recs.items
    → x.slot ≡ Some i → x.summary ≡ s → x.tuning ≡ u → IsFoundOn def slots x c
stored_some def slots i s u x c has records slot summary tuning = grind arith
