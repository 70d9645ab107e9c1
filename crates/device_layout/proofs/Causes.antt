-- What was read and why it was refused.
use Rattle.std.proofs.Common.{◌≡◌, ℕ, List, Option, subst}
use Rattle.trend_num.specs.{declared.archive.Summary.Summary, declared.tuning.Tuning.Tuning, declared.tag_def.TagDef.TagDef}
use Rattle.disk_model.specs.{Traces.Trace, Traces.seen, Calls.Reads, Calls.Shows}
use Rattle.archive_file.specs.{Places.IsDamage}
use Rattle.event_queue.specs.{lane_end}
use Rattle.device_layout.specs.{declared.slot.Slot.Slot, IsTagDamage, CountsSummary}
use Rattle.device_layout.proofs.Reading.{records_broken}

-- the same bytes were read before some calls that changed nothing
pub reads_before : (o p : Trace) (at : ℕ) (bytes : List ℕ) → p ≡ o → Reads p at bytes → Reads o at bytes
reads_before o p at bytes same read = subst (λ x. Reads x at bytes) same read

-- a broken log
pub records_cause : (def : TagDef) (o : Trace) (slots log : ℕ) (i : Slot) (s : Summary) (u : Tuning) (a : ℕ)
    (byte : Option ℕ) → log ≡ lane_end slots → Shows o (λ c. IsDamage c log s.records a byte)
    → Shows o (CountsSummary def slots i s u) → Shows o (λ c. IsTagDamage def c a byte)
records_cause def t slots log i s u a byte is damage has = records_broken def slots i s u (seen t) a byte
    (subst (λ n. IsDamage (seen t) n s.records a byte) is damage) has
