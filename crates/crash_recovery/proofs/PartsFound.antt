-- Records and a summary that were read together.
use Rattle.std.proofs.Common.{◌≡◌, ℕ, Bool, List, [], Some, length, get_or, subst, sym, arith}
use Rattle.trend_num.specs.declared.archive.{Rec.Rec, Summary.Summary}
use Rattle.trend_num.specs.declared.{tuning.Tuning.Tuning, tag_def.TagDef.TagDef}
use Rattle.trend_model.specs.{ArePartsOk}
use Rattle.disk_model.specs.{Traces.Trace, Traces.seen, Calls.Shows, Calls.Reads}
use Rattle.archive_file.specs.{HasRecords}
use Rattle.event_queue.specs.{lane_end}
use Rattle.device_layout.specs.declared.{layout_reader.Stored.Stored, slot.Slot.Slot}
use Rattle.device_layout.specs.{Recovery.no_summary, Recovery.summary_place, Damages.IsTagDamage, CountsSummary, IsFoundOn, IsReadFrom}
use Rattle.device_layout.proofs.{NewLayout.no_parts, Reading.parts_broken, Reading.here_at}

-- before the first checkpoint they can be those of a tag
pub none_ok : (u : Tuning) (step : Bool) (rs : List Rec) (s : Summary) → (s ≡ no_summary) × (rs ≡ [])
    → ArePartsOk u step rs s
none_ok u step rs s none = grind (arith, no_parts)

-- the summary that was found counts
found_counts : (def : TagDef) (slots : ℕ) (x : Stored) (i : Slot) (c : List ℕ) → IsFoundOn def slots x c → x.slot ≡ Some i
    → CountsSummary def slots i x.summary x.tuning c
found_counts def slots x i c found slot = grind arith

-- where they can't, the device is damaged
pub parts_damaged : (def : TagDef) (o : Trace) (slots place : ℕ) (x : Stored) (i : Slot) (step : Bool)
    (first : List ℕ) → def.step ≡ step → place ≡ summary_place i → x.slot ≡ Some i
    → (ArePartsOk x.tuning step x.recs.items x.summary → ⊥) → length first ≡ 1 → Reads o place first → Shows o
    (IsFoundOn def slots x) → Shows o (λ c. IsTagDamage def c (summary_place i) (Some (get_or first 0 0)))
parts_damaged def t slots place x i step first same_step at slot broken size read found =
    let c = seen t in
    parts_broken def slots i x.summary x.tuning step x.recs.items first c same_step
    (subst (λ n. HasRecords c (lane_end n) x.summary.records x.recs.items) (sym found.slots_are) found.records) broken size
    (here_at first place (summary_place i) c at read) (found_counts def slots x i c found slot)

-- and where they can, this was read
pub read_from : (def : TagDef) (o : Trace) (slots : ℕ) (step : Bool) (x : Stored) → def.step ≡ step
    → ArePartsOk x.tuning step x.recs.items x.summary → Shows o (IsFoundOn def slots x) → Shows o (IsReadFrom def slots x)
read_from def t slots step x same_step ok found = grind arith
