-- Why the opening of tags stops.
use Rattle.std.proofs.Common.{◌≡◌, ◌≢◌, inl, inr, ℕ, ◌+◌, ◌^◌, ◌<◌, ◌≤◌, List, [], ◌∷◌, ◌++◌, length, map, take, get_or, Err, refl, sym, ◌∙◌, ap, subst, arith}
use Rattle.std.specs.Prelude.{All, IfSome, String}
use Rattle.std.specs.declared.alloc.Global.{Global}
use Rattle.std.proofs.lemmas.List.{length_push, map_push, take_more}
use Rattle.std.proofs.lemmas.List.Sums.{sum_by_push}
use Rattle.std.proofs.lemmas.Slice.Zip.{all_zipped_more}
use Rattle.trend_num.specs.{most_stored, TagDef}
use Rattle.trend_num.specs.declared.refusal.What.TheVariants.{StoreRecords}
use Rattle.tag_core.specs.Core.{Core}
use Rattle.disk_model.specs.{CountsFault, Rose, sum_of_counts, Trace, Device}
use Rattle.branded_disk.specs.{IsUnused, Past}
use Rattle.device_layout.specs.{OpenNo, IsCause}
use Rattle.device_layout.specs.declared.failure.OpenNo.TheVariants.{DeviceFault, Damaged, OtherTag, Full, WantOfMemory}
use Rattle.crash_recovery.specs.{StaysSame}
use Rattle.plant_status.specs.declared.status.Status.{Status}
use Rattle.plant_status.specs.declared.status.Status.TheVariants.{Limit}
use Rattle.tag_cell.specs.{ToldCell, device_name}
use Rattle.plant_store.specs.TagRefusals.{status_of, CountsStore, IsRefusedAt, IsRefusal, IsTooMuch}
use Rattle.plant_store.specs.Tags.{tag_trace_of, AllStaySame, AreDistinct, AreTagsOpened, AreOtherTagsSame, tag_records_in, AreTagsUnused}
use Rattle.plant_store.proofs.TagEndings.{counted}
use Rattle.plant_store.proofs.TagTurns.{IsTag, not_reached, one_longer, reached}
use Rattle.plant_store.specs.CellClosings.{AreGivenBack, CountsCells}
use Rattle.plant_store.specs.{device_names_of, texts, core_of, IsCellOpened, AreCellsOpened, records_opened, IsStopped}
use Rattle.plant_store.proofs.CellFronts.{AllStayFrom, all_stay, cores_opened, given_later, records_are, turned_from}
use Rattle.plant_store.proofs.CellLabels.{given_of}
use Rattle.plant_store.proofs.CellLists.{zip_each}

-- what is known where tag i is the first that is refused
pub record IsFront (tags : List TagDef) (i : ℕ) (def : TagDef) (cores : List Core) (old new : List ℕ → Trace) : Type 0 where
  pub tag : IsTag tags i def
  pub opened : AreTagsOpened (take i tags) old cores
  pub few : tag_records_in cores ≤ most_stored
  pub rest : AreOtherTagsSame (take (i + 1) tags) old new

-- it is refused there, for this
pub refused_there : (tags : List TagDef) (i : ℕ) (def : TagDef) (cores : List Core) (old new : List ℕ → Trace)
    (P : List Core → TagDef → Trace → Type 0) → IsFront tags i def cores old new → P cores def (tag_trace_of old def)
    → IsRefusedAt tags old new i P
refused_there tags i def cores old new P front cause = record {
  def = def;
  cores = cores;
  there = front.tag.there;
  is_tag = sym front.tag.is;
  front = front.opened;
  few = front.few;
  cause = cause;
  rest = front.rest;
}

-- and the status reports its cause
pub told : (tags : List TagDef) (i : ℕ) (def : TagDef) (cores : List Core) (old new : List ℕ → Trace) (before after : ℕ)
    (why : OpenNo) → IsFront tags i def cores old new → (before < 2 ^ 64 → why ≡ DeviceFault → Rose before after)
    → IsCause def (tag_trace_of old def) why → IsRefusal tags old new before after (status_of i why)
told tags i def cores old new before after DeviceFault front rose cause =
    refused_there tags i def cores old new _ front (λ small. rose small refl)
told tags i def cores old new before after (Damaged at byte) front rose cause =
    refused_there tags i def cores old new _ front cause
told tags i def cores old new before after (OtherTag found wanted) front rose cause =
    refused_there tags i def cores old new _ front cause
told tags i def cores old new before after (Full records) front rose cause =
    (i, refused_there tags i def cores old new _ front cause)
told tags i def cores old new before after WantOfMemory front rose cause = tt

-- ---- the opening stops

-- what is known of the cells of the first i tags
pub record AreFirst {D : Type 0} (device : D → Device) (tags : List TagDef) (i : ℕ)
    (cells : List (ToldCell D)) (old : List ℕ → Trace) : Type 0 where
  pub opened : AreCellsOpened device (take i tags) old cells
  pub count : length cells ≡ i
  pub few : records_opened cells ≤ most_stored

-- their cores are those before the refused tag
pub front_of : {D : Type 0} (device : D → Device) (tags : List TagDef) (i : ℕ) (def : TagDef)
    (cells : List (ToldCell D)) (old new : List ℕ → Trace) → AreFirst device tags i cells old → IsTag tags i def
    → AreOtherTagsSame (take (i + 1) tags) old new → IsFront tags i def (map (core_of {D = D}) cells) old new
front_of device tags i def cells old new first tag rest = record {
  tag = tag;
  opened = cores_opened device (take i tags) old cells first.opened;
  few = omega (arith, records_are cells, first.few);
  rest = rest;
}

-- at a tag that is not opened
pub stopped_there : {D T : Type 0} (device : D → Device) (tags : List TagDef) (i : ℕ) (def : TagDef)
    (cells : List (ToldCell D)) (old now mid : List ℕ → Trace) (before count : ℕ) (why : OpenNo) → AreDistinct tags
    → AreFirst device tags i cells old → AreOtherTagsSame (take i tags) old now → IsTag tags i def
    → ((n : List ℕ) → n ≢ device_name def.name → mid n ≡ now n) → StaysSame def (tag_trace_of now def) (tag_trace_of mid def)
    → IsCause def (tag_trace_of now def) why → (before < 2 ^ 64 → CountsFault {T = T} (Err why) DeviceFault before count)
    → IsStopped device tags cells old mid before count (status_of i why)
stopped_there device tags i def cells old now mid before count why distinct first others tag step same cause counts =
    let place = first.count in record {
      refused = λ new after later is.
          let later_is = subst (λ n. AreOtherTagsSame (take n tags) mid new) place later in
          told tags i def (map core_of cells) old new before after why
          (front_of device tags i def cells old new first tag (given_later tags (i + 1) i old mid new
          (reached tags i def old now mid others tag step) later_is (omega arith)))
          (λ small fault. subst (λ n. Rose before n) (sym (is small)) ((counts small).failed (ap Err fault)))
          (subst (λ o. IsCause def o why) (not_reached tags i i def old now others distinct tag (omega arith)) cause);
      same = λ new later says.
          all_stay device tags cells old mid new distinct (omega (arith, place, tag.there))
          (subst (λ n. AreCellsOpened device (take n tags) old cells) (sym place) first.opened)
          (subst (λ n. AllStayFrom n tags old mid) (sym place)
          (turned_from tags i def old now mid distinct tag others step same)) later says;
      counts = λ small. counted (Unit {0}) i before count why (counts small);
    }

-- a cell that is opened now was opened as what its tag's device had at the beginning
pub opened_since : {D : Type 0} (tags : List TagDef) (i : ℕ) (def : TagDef) (text : List ℕ) (old now : List ℕ → Trace)
    (dev : Device) (c : ToldCell D) → AreOtherTagsSame (take i tags) old now → AreDistinct tags
    → IsTag tags i def → text ≡ device_name def.name → IsCellOpened def (now text) dev c
    → IsCellOpened def (tag_trace_of old def) dev c
opened_since tags i def text old now dev c others distinct tag named is =
    subst (λ o. IsCellOpened def o dev c) (ap now named ∙ not_reached tags i i def old now others distinct tag (omega arith)) is

-- its device is what it was when the command began, if that is told
pub still_unused : (before : Past) (tags : List TagDef) (i : ℕ) (def : TagDef) (text : List ℕ) (old now : List ℕ → Trace)
    → AreOtherTagsSame (take i tags) old now → AreDistinct tags → IsTag tags i def → text ≡ device_name def.name
    → AreTagsUnused before tags old → IsUnused before now text
still_unused before tags i def text old now others distinct tag named unused =
    subst (IsUnused before now) (sym named)
    (subst (λ (x : Trace). IfSome (before (device_name def.name)) (λ t. x ≡ t))
    (sym (not_reached tags i i def old now others distinct tag (omega arith)))
    (subst (λ (d : TagDef). IsUnused before old (device_name d.name)) (sym tag.is) (unused i def tag.there)))

-- at a tag with which there are too many records
pub stopped_full : {D : Type 0} (device : D → Device) (tags : List TagDef) (i : ℕ) (def : TagDef)
    (text : List ℕ) (cells : List (ToldCell D)) (c : ToldCell D) (old now mid : List ℕ → Trace) (before count after number : ℕ)
    → AreDistinct tags → AreFirst device tags i cells old → AreOtherTagsSame (take i tags) old now → IsTag tags i def
    → text ≡ device_name def.name → ((n : List ℕ) → n ≢ text → mid n ≡ now n) → mid text ≡ (device c.journal.dev).trace
    → IsCellOpened def (now text) (device c.journal.dev) c
    → number ≡ records_opened cells + length c.opening.recs.items → most_stored < number → count ≡ before
    → after ≡ sum_of_counts count (device c.journal.dev).faults
    → IsStopped device tags cells old mid before after (Limit StoreRecords number)
stopped_full {D} device tags i def text cells c old now mid before count after number distinct first others tag named
    step told is number_is many none sum =
    let place = first.count in
    let turn = λ (n : List ℕ) (apart : n ≢ device_name def.name). step n (λ e. apart (e ∙ named)) in
    let same = subst (λ (n : List ℕ). StaysSame def (now n) (mid n)) named (subst (λ o. StaysSame def (now text) o) (sym told) is.same) in
    record {
      refused = λ new after' later same'. (
        i,
        refused_there tags i def (map core_of cells) old new (IsTooMuch number)
            (front_of device tags i def cells old new first tag (given_later tags (i + 1) i old mid new
            (reached tags i def old now mid others tag turn) (subst (λ n. AreOtherTagsSame (take n tags) mid new) place later) (omega arith)))
            (record {
              core = core_of c;
              opened = (opened_since tags i def text old now (device c.journal.dev) c
                  others distinct tag named is).found;
              number_is = omega (arith, number_is, records_are cells);
              many = many;
            }),
      );
      same = λ new later says.
          all_stay device tags cells old mid new distinct (omega (arith, place, tag.there))
          (subst (λ n. AreCellsOpened device (take n tags) old cells) (sym place) first.opened)
          (subst (λ n. AllStayFrom n tags old mid) (sym place) (turned_from tags i def old now mid distinct tag others turn same))
          later says;
      counts = λ small. inl (omega (arith, sum, none, small, is.faultless));
    }

-- ---- once the devices are given back

-- the devices of opened cells have counted no fault
pub all_faultless : {D : Type 0} (device : D → Device) (tags : List TagDef)
    (traces : List ℕ → Trace) (cells : List (ToldCell D)) → AreCellsOpened device tags traces cells
    → All (λ (c : ToldCell D). (device c.journal.dev).faults ≡ 0) cells
all_faultless {D} device tags traces cells opened = zip_each (λ (def : TagDef) (c : ToldCell D).
    IsCellOpened def (tag_trace_of traces def) (device c.journal.dev) c)
    (λ (c : ToldCell D). (device c.journal.dev).faults ≡ 0) (λ def c is. is.faultless) tags cells opened

-- a count that is below the end of its type stays so
pub small_still : (before count : ℕ) (why : Status) → before < 2 ^ 64 → CountsStore {T = Unit {0}} (Err why) before count
    → count < 2 ^ 64
small_still before count why small (inl same) = omega (arith, same, small)
small_still before count why small (inr rose) = omega (arith, rose.2, small)

-- so the store counts then what it counted as the opening stopped
pub count_kept : {D : Type 0} (device : D → Device) (tags all : List TagDef)
    (old now : List ℕ → Trace) (cells : List (ToldCell D)) (before count after : ℕ) (why : Status)
    → AreCellsOpened device tags old cells → IsStopped device all cells old now before count why
    → (count < 2 ^ 64 → CountsCells device cells count after) → before < 2 ^ 64 → after ≡ count
count_kept device tags all old now cells before count after why opened stopped counts small =
    (counts (small_still before count why small (stopped.counts small))).faultless
    (all_faultless device tags old cells opened)

-- ---- one tag more

-- it comes after those before it
pub opened_more : {D : Type 0} (device : D → Device) (tags : List TagDef) (i : ℕ) (def : TagDef)
    (cells more : List (ToldCell D)) (c : ToldCell D) (old : List ℕ → Trace) → AreFirst device tags i cells old
    → IsTag tags i def → IsCellOpened def (tag_trace_of old def) (device c.journal.dev) c
    → more ≡ cells ++ c ∷ [] → AreCellsOpened device (take (i + 1) tags) old more × (length more ≡ i + 1)
opened_more {D} device tags i def cells more c old first tag is all = (
  subst (λ l. AreCellsOpened device (take (i + 1) tags) old l) (sym all)
      (subst (λ l. AreCellsOpened device l old (cells ++ c ∷ [])) (sym (one_longer tags i def tag))
      (all_zipped_more (λ (d : TagDef) (e : ToldCell D). IsCellOpened d (tag_trace_of old d) (device e.journal.dev) e) (take i tags) cells def c first.opened is)),
  omega (arith, ap length all, length_push cells c, first.count),
)

-- its records are counted
pub records_more : {D : Type 0} (cells more : List (ToldCell D)) (c : ToldCell D) → more ≡ cells ++ c ∷ []
    → records_opened more ≡ records_opened cells + length c.opening.recs.items
records_more {D} cells more c all = ap (records_opened {D = D}) all
    ∙ sum_by_push (λ (e : ToldCell D). length e.opening.recs.items) cells c

-- the rooms of the cells
pub rooms_more : {D : Type 0} (cells more : List (ToldCell D)) (c : ToldCell D) (rooms : List ℕ) (i k : ℕ) → more ≡ cells ++ c ∷ []
    → map (λ (e : ToldCell D). e.room) cells ≡ take i rooms → c.room ≡ get_or rooms k 0 → k ≡ i → i < length rooms
    → map (λ (e : ToldCell D). e.room) more ≡ take (i + 1) rooms
rooms_more {D} cells more c rooms i k all before is at there = ap (λ l. map (λ (e : ToldCell D). e.room) l) all
    ∙ (map_push (λ (e : ToldCell D). e.room) cells c ∙ (ap (λ l. l ++ c.room ∷ []) before
    ∙ (ap (λ (n : ℕ). take i rooms ++ n ∷ []) (is ∙ ap (λ j. get_or rooms j 0) at) ∙ sym (take_more rooms i 0 there))))

-- ---- the whole refusal

-- once the devices of the opened cells are given back, it is a refusal of the tags, a crash has left nothing else, the faults
-- are counted, and the devices of other tags are as they were
pub record IsGivenUp (tags opened : List TagDef) (old now new : List ℕ → Trace) (before after : ℕ) (why : Status) : Type 0 where
  pub refused : IsRefusal tags old new before after why
  pub same : AllStaySame tags old new
  pub counts : before < 2 ^ 64 → CountsStore {T = Unit {0}} (Err why) before after
  pub others : AreOtherTagsSame opened now new

pub given_up : {D : Type 0} (device : D → Device) (names : List (String Global))
    (tags : List TagDef) (cells : List (ToldCell D)) (n : ℕ) (old now new : List ℕ → Trace) (before count after : ℕ) (why : Status)
    → texts names ≡ device_names_of tags → n ≡ length cells → AreCellsOpened device (take (length cells) tags) old cells
    → IsStopped device tags cells old now before count why → AreGivenBack device (texts (take n names)) cells now new
    → (count < 2 ^ 64 → CountsCells device cells count after)
    → IsGivenUp tags (take (length cells) tags) old now new before after why
given_up device names tags cells n old now new before count after why same is opened stopped back counts =
    let given = given_of device names tags cells old now new same opened
    (subst (λ k. AreGivenBack device (texts (take k names)) cells now new) is back) in
    let kept = count_kept device (take (length cells) tags) tags old now cells before count after why opened stopped counts in
    record {
      refused = stopped.refused new after given.0 kept;
      same = stopped.same new given.0 given.1;
      counts = λ small. subst (λ k. CountsStore {T = Unit {0}} (Err why) before k) (sym (kept small)) (stopped.counts small);
      others = given.0;
    }
