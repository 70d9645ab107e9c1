-- A summary's slot: how long it is, its two numbers, and what has one.
use Rattle.std.proofs.Common.{◌≡◌, ℕ, Bool, true, List, ◌++◌, length, take, drop, Option, Some, is_some, IfSome, arith, length-append}
use Rattle.std.proofs.lemmas.Nat.{from_be_bytes-to_be_bytes_8, from_be_bytes-to_be_bytes_4}
use Rattle.std.specs.Int.{w32, w64, from_be_bytes}
use Rattle.trend_num.specs.{declared.point.Point.Point, declared.archive.Rec.Rec, declared.archive.Summary.Summary, declared.tuning.Tuning.Tuning, Ranges.TuningInRange}
use Rattle.trend_model.specs.{Lists.IfThere, Parts.PendingFits, Parts.IsBegunOrBlank, Parts.ArePartsOk}
use Rattle.archive_file.specs.{Fields.place_bytes, Summaries.tuning_bytes, Summaries.summary_image, Summaries.IsSummary}

-- a place has 16 bytes
pub length-place : (p : Option Point) → length (place_bytes p) ≡ 16
length-place p = grind arith

-- a tuning has 32 bytes
pub length-tuning_bytes : (o : Option Tuning) → length (tuning_bytes o) ≡ 32
length-tuning_bytes o = grind arith

-- five points and a tuning
length_together : (a b c d e t : List ℕ) → length a ≡ 16 → length b ≡ 16 → length c ≡ 16 → length d ≡ 16
    → length e ≡ 16 → length t ≡ 32 → length ((a ++ (b ++ (c ++ (d ++ e)))) ++ t) ≡ 112
length_together a b c d e t la lb lc ld le lt = simp length-append (omega arith)

-- a summary has 128 bytes
pub length-summary_image : (s : Summary) → length (summary_image s) ≡ 128
length-summary_image s = grind (arith, length_together, length-place, length-tuning_bytes)

-- how many events it counts
pub taken_spelled : (s : Summary) → IsSummary s → from_be_bytes w64 (take 8 (summary_image s)) ≡ s.taken
taken_spelled s whole = from_be_bytes-to_be_bytes_8 s.taken whole.taken

-- how many records
pub records_spelled : (s : Summary) → IsSummary s → from_be_bytes w32 (take 4 (drop 8 (summary_image s))) ≡ s.records
records_spelled s whole = from_be_bytes-to_be_bytes_4 s.records whole.records

-- a fact of what may be there, in the other word
if_some : {A : Type 0} (P : A → Type 0) (o : Option A) → IfThere P o → IfSome o P
if_some P o there = grind arith

-- which of a summary's points occur together
record StandTogether (held hinge upper lower : Option Point) : Type 0 where
  together : is_some held ≡ is_some hinge
  doors : is_some upper ≡ is_some lower
  doors_after : is_some upper ≡ true → is_some held ≡ true

-- those of a tag that has begun do, and those of one that has not
stands_together : (step : Bool) (d : ℕ) (rs : List Rec) (held hinge upper lower : Option Point)
    → IsBegunOrBlank step d rs held hinge upper lower → StandTogether held hinge upper lower
stands_together step d rs held hinge upper lower blank = grind arith

-- a pending value is there only together with a held one
pending_beside : (u : Tuning) (held pending : Option Point) → PendingFits u held pending
    → is_some pending ≡ true → is_some held ≡ true
pending_beside u held pending fits there = grind arith

-- records and a summary that can be those of a tag: the summary has a spelling
pub summary_of_parts : (u : Tuning) (step : Bool) (rs : List Rec) (s : Summary) → ArePartsOk u step rs s
    → s.tuning ≡ Some u → TuningInRange u → IsSummary s
summary_of_parts u step rs s ok told tuned = grind (arith, stands_together, pending_beside, if_some)
