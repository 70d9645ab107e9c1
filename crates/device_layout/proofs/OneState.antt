-- An image recovers one state at most.
use Rattle.std.proofs.Common.{◌≡◌, inl, inr, List, ℕ, Option, None, Some, sym, ◌∙◌, arith}
use Rattle.trend_num.specs.{declared.archive.Rec.Rec, declared.archive.Summary.Summary, declared.tag_def.TagDef.TagDef}
use Rattle.trend_model.specs.State.{State}
use Rattle.disk_model.specs.{IsNew}
use Rattle.archive_file.specs.{HasRecords}
use Rattle.archive_file.proofs.Spellings.{one_list, one_summary}
use Rattle.device_layout.specs.{declared.slot.Slot.Slot, HasSummary, IsStored, IsRecovered, Recovers}

-- an image with what is stored is not new
not_new : (def : TagDef) (c : List ℕ) (rs : List Rec) (s : Summary) → IsStored def c rs s → IsNew c → ⊥
not_new def c rs s stored h = grind arith

-- there is one summary in a slot
pub summary_is_one : (c : List ℕ) (o : Option Slot) (s x : Summary) → HasSummary c o s → HasSummary c o x → s ≡ x
summary_is_one c None s x is other = is ∙ sym other
summary_is_one c (Some i) s x has other = one_summary s x has.0 other.0 (sym has.1 ∙ other.1)

-- and one list of records
pub records_are_one : (c : List ℕ) (at n m : ℕ) (rs xs : List Rec) → n ≡ m → HasRecords c at n rs → HasRecords c at m xs
    → rs ≡ xs
records_are_one c at n m rs xs same has other = grind (arith, one_list)

replayed_is_one : (def : TagDef) (c : List ℕ) (s x : State) → IsRecovered def c s → IsRecovered def c x → s ≡ x
replayed_is_one def c s x (rs, sum, stored, replayed) (ys, num, found, again) = grind (arith, summary_is_one, records_are_one)

pub one_state : (def : TagDef) (c : List ℕ) (s x : State) → Recovers def c s → Recovers def c x → s ≡ x
one_state def c s x (inl new) (inl again) = new.1 ∙ sym again.1
one_state def c s x (inl new) (inr (rs, sum, stored, replayed)) = absurd (not_new def c rs sum stored new.0)
one_state def c s x (inr (rs, sum, stored, replayed)) (inl new) = absurd (not_new def c rs sum stored new.0)
one_state def c s x (inr one) (inr other) = replayed_is_one def c s x one other
