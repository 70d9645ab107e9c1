-- How the opening of tags ends.
use Rattle.std.proofs.Common.{◌≡◌, ◌≢◌, inl, inr, ℕ, ◌+◌, ◌^◌, ◌<◌, ◌≤◌, List, length, get_or, take, Err, refl, sym, subst, arith}
use Rattle.std.proofs.lemmas.List.{take_all}
use Rattle.std.proofs.lemmas.List.Elements.{All-take}
use Rattle.trend_num.specs.{TagDef, most_stored}
use Rattle.tag_core.specs.Core.{Core}
use Rattle.disk_model.specs.{Trace, CountsFault, Rose}
use Rattle.crash_recovery.specs.{StaysSame}
use Rattle.device_layout.specs.{OpenNo, IsCause}
use Rattle.device_layout.specs.declared.failure.OpenNo.TheVariants.{DeviceFault, Damaged, OtherTag, Full, WantOfMemory}
use Rattle.tag_cell.specs.{device_name}
use Rattle.plant_store.specs.Tags.{tag_trace_of, AllStaySame, AreDistinct, AreTagsOpened, AreLeft, AreOtherTagsSame, tag_records_in}
use Rattle.plant_store.specs.TagRefusals.{status_of, IsRefusedAt, IsRefusal, CountsStore}
use Rattle.plant_store.proofs.TagTurns.{IsSoFar, IsTag, IsTurn, all_same, not_reached, reached}

-- what no tag has, none of the first has
pub of_all : (tags : List TagDef) (i : ℕ) (old new : List ℕ → Trace)
    → AreOtherTagsSame (take i tags) old new → AreOtherTagsSame tags old new
of_all tags i old new others n none =
    others n (All-take (λ (def : TagDef). n ≢ device_name def.name) i tags none)

-- where it ends at the next tag, whose device alone was touched, each device stays the same, and no other one has changed
pub ends_at : (tags : List TagDef) (i : ℕ) (def : TagDef) (old now new : List ℕ → Trace) (cores : List Core)
    → IsSoFar tags i old now cores → i < length tags → def ≡ get_or tags i def
    → ((n : List ℕ) → n ≢ device_name def.name → new n ≡ now n) → StaysSame def (tag_trace_of now def) (tag_trace_of new def)
    → (AreDistinct tags → AllStaySame tags old new) × AreOtherTagsSame tags old new
ends_at tags i def old now new cores so_far there is others same =
    let tag : IsTag tags i def = record { there = there; is = is } in
    let turn : IsTurn def now new = record { others = others; same = same } in (
      λ distinct. all_same tags i def old now new cores so_far distinct tag turn,
      of_all tags (i + 1) old new (reached tags i def old now new so_far.others tag turn.others),
    )

-- all tags are opened
pub all_opened : (tags : List TagDef) (i : ℕ) (old : List ℕ → Trace) (cores : List Core)
    → length tags ≤ i
    → AreTagsOpened (take i tags) old cores → AreTagsOpened tags old cores
all_opened tags i old cores end opened =
    subst (λ (l : List TagDef). AreTagsOpened l old cores) (take_all i tags end) opened

-- all devices are left
pub all_left : (tags : List TagDef) (i : ℕ) (old now : List ℕ → Trace) (cores : List Core)
    → length tags ≤ i
    → AreLeft (take i tags) old now cores → AreLeft tags old now cores
all_left tags i old now cores end left =
    subst (λ (l : List TagDef). AreLeft l old now cores) (take_all i tags end) left

-- the next tag is the first that is refused
pub refused_at : (tags : List TagDef) (i : ℕ) (def : TagDef) (old now new : List ℕ → Trace)
    (cores : List Core)
    (P : List Core → TagDef → Trace → Type 0) → IsSoFar tags i old now cores
    → tag_records_in cores ≤ most_stored
    → AreDistinct tags → IsTag tags i def → IsTurn def now new → P cores def (tag_trace_of now def)
    → IsRefusedAt tags old new i P
refused_at tags i def old now new cores P so_far few distinct tag turn cause = record {
  def = def;
  cores = cores;
  there = tag.there;
  is_tag = sym tag.is;
  front = so_far.opened distinct;
  few = few;
  cause = subst (λ (o : Trace). P cores def o)
      (not_reached tags i i def old now so_far.others distinct tag (omega arith)) cause;
  rest = reached tags i def old now new so_far.others tag turn.others;
}

-- its refusal reports the cause
pub told : (tags : List TagDef) (i : ℕ) (def : TagDef) (old now new : List ℕ → Trace)
    (cores : List Core)
    (before after : ℕ) (why : OpenNo) → IsSoFar tags i old now cores
    → tag_records_in cores ≤ most_stored
    → AreDistinct tags → IsTag tags i def → IsTurn def now new
    → (before < 2 ^ 64 → why ≡ DeviceFault → Rose before after)
    → IsCause def (tag_trace_of now def) why → IsRefusal tags old new before after (status_of i why)
told tags i def old now new cores before after DeviceFault so_far few distinct tag turn rose cause =
    refused_at tags i def old now new cores _ so_far few distinct tag turn (λ small. rose small refl)
told tags i def old now new cores before after
    (Damaged at byte) so_far few distinct tag turn rose cause =
    refused_at tags i def old now new cores _ so_far few distinct tag turn cause
told tags i def old now new cores before after
    (OtherTag found wanted) so_far few distinct tag turn rose cause =
    refused_at tags i def old now new cores _ so_far few distinct tag turn cause
told tags i def old now new cores before after
    (Full records) so_far few distinct tag turn rose cause =
    (i, refused_at tags i def old now new cores _ so_far few distinct tag turn cause)
told tags i def old now new cores before after WantOfMemory so_far few distinct tag turn rose cause =
    tt

-- the faults that were counted until a tag is refused
pub counted : {T : Type 0} (U : Type 0) (i before after : ℕ) (why : OpenNo)
    → CountsFault {T = T} (Err why) DeviceFault before after → CountsStore {T = U} (Err (status_of i why)) before after
counted U i before after DeviceFault counts = inr (i, refl, counts.failed refl)
counted U i before after (Damaged at byte) counts = inl (counts.refused (λ is. absurd (cc (is))))
counted U i before after (OtherTag found wanted) counts = inl (counts.refused (λ is. absurd (cc (is))))
counted U i before after (Full records) counts = inl (counts.refused (λ is. absurd (cc (is))))
counted U i before after WantOfMemory counts = inl (counts.refused (λ is. absurd (cc (is))))
