-- How the opening of groups ends.
use Rattle.std.proofs.Common.{◌≡◌, inl, inr, ℕ, ◌^◌, ◌<◌, ◌≤◌, List, [], ◌∷◌, length, map, get_or, string_bytes, Option, None, Some, IsSome, Err, refl, sym, ◌∙◌, ap, subst, arith}
use Rattle.std.specs.Prelude.{IfSome, String}
use Rattle.std.specs.declared.alloc.Global.{Global}
use Rattle.std.proofs.lemmas.Bool.{cases_lt}
use Rattle.std.proofs.lemmas.List.{get_or_default, get_or-map, length-map}
use Rattle.trend_num.specs.{Rec}
use Rattle.disk_model.specs.{CountsFault, Rose, During, Trace, Device}
use Rattle.tag_base.specs.{GroupDef}
use Rattle.group_book.specs.{LoadNo, BookStaysSame, ToldBook}
use Rattle.group_book.specs.declared.refusal.LoadNo.TheVariants.{DeviceFault, Damaged, Ahead, Shape, WantOfMemory}
use Rattle.plant_store.specs.Groups.{AllStaySame, AreBooksOpened, AreDistinct, AreNamesOf, AreGroupsOpened, DeviceTraces, IsGroupOpening, group_parts_of, input_records_of, group_definition_text, group_trace_at}
use Rattle.plant_store.specs.BookRefusals.{CountsStore, IsRefusal, IsRefusedAt, OfDamage, OfFault, OfMemory, OfVersion, OfWindows, status_of}
use Rattle.plant_store.specs.BookEndings.{AreGivenBack, counts_after, trace_after}
use Rattle.plant_store.specs.{AreOtherNamesSame, IsCauseAt, RestStaysSame}
use Rattle.plant_store.proofs.BookNames.{as_many, named_at}
use Rattle.plant_store.proofs.BookReturns.{counts_none}
use Rattle.plant_store.proofs.BookTurns.{unreached}

-- ---- a refusal

-- the groups before it are opened
pub front_of : {D : Type 0} (device : D → Device) (groups : List GroupDef) (records : List (List Rec))
    (old : DeviceTraces) (books : List (ToldBook D)) → AreBooksOpened device groups records old books
    → AreGroupsOpened (length books) groups records old (map (λ b. b.opening) books)
front_of device groups records old [] opened k d x below = absurd (omega (arith, below))
front_of device groups records old (b ∷ bs) opened k d x below =
    subst (λ o. IsGroupOpening (get_or groups k d) (input_records_of records (get_or groups k d)) (group_trace_at old (get_or groups k d)) o)
    (sym (get_or-map (λ b. b.opening) (b ∷ bs) k b x below)) (opened.each k d b below).opening

refused_at : {D : Type 0} (device : D → Device) (groups : List GroupDef) (records : List (List Rec))
    (old : DeviceTraces) (books : List (ToldBook D)) (g : GroupDef) (P : GroupDef → List (List Rec) → Trace → Type 0)
    → AreBooksOpened device groups records old books → length books < length groups
    → P (get_or groups (length books) g) (input_records_of records (get_or groups (length books) g)) (group_trace_at old (get_or groups (length books) g))
    → IsRefusedAt groups records old (length books) P
refused_at device groups records old books g P opened below cause = record {
  g = get_or groups (length books) g;
  openings = map (λ b. b.opening) books;
  there = below;
  is_group = get_or_default groups (length books) (get_or groups (length books) g) g below;
  as_many = length-map books (λ b. b.opening);
  front = front_of device groups records old books opened;
  cause = cause;
}

-- the status reports its cause
told : {D : Type 0} (device : D → Device) (groups : List GroupDef) (records : List (List Rec))
    (old : DeviceTraces) (books : List (ToldBook D)) (before now : ℕ) (why : LoadNo) (g : GroupDef)
    → AreBooksOpened device groups records old books → length books < length groups
    → IsCauseAt (length books) groups records old why → (before < 2 ^ 64 → why ≡ DeviceFault → Rose before now)
    → IsRefusal groups records old before now (status_of (length books) why)
told device groups records old books before now DeviceFault g opened below cause rose =
    OfFault (length books) refl
    (refused_at device groups records old books g _ opened below (λ small. rose small refl))
told device groups records old books before now (Damaged at byte) g opened below cause rose =
    OfDamage (length books) at byte refl
    (refused_at device groups records old books g _ opened below (cause g))
told device groups records old books before now (Ahead input version found) g opened below cause rose =
    OfVersion (length books) input found version refl
    (refused_at device groups records old books g _ opened below (cause g))
told device groups records old books before now (Shape windows rows) g opened below cause rose =
    OfWindows (length books) windows rows refl
    (refused_at device groups records old books g _ opened below (cause g))
told device groups records old books before now WantOfMemory g opened below cause rose = OfMemory refl

pub told_all : {D : Type 0} (device : D → Device) (groups : List GroupDef) (records : List (List Rec))
    (old : DeviceTraces) (books : List (ToldBook D)) (before now : ℕ) (why : LoadNo)
    → AreBooksOpened device groups records old books → length books < length groups
    → IsCauseAt (length books) groups records old why → (before < 2 ^ 64 → why ≡ DeviceFault → Rose before now)
    → IsRefusal groups records old before now (status_of (length books) why)
told_all device [] records old books before now why opened below cause rose = absurd (omega (arith, below))
told_all device (g ∷ gs) records old books before now why opened below cause rose =
    told device (g ∷ gs) records old books before now why g opened below cause rose

-- ---- faults

-- a call of the device has failed
pub fails : {T : Type 0} (why : LoadNo) (before now : ℕ) → CountsFault {T = T} (Err why) DeviceFault before now → why ≡ DeviceFault
    → Rose before now
fails why before now counts is = counts.failed (ap Err is)

-- the faults that were counted until a group is refused
pub counted : {T : Type 0} (U : Type 0) (i before now : ℕ) (why : LoadNo) → CountsFault {T = T} (Err why) DeviceFault before now
    → CountsStore {T = U} (Err (status_of i why)) before now
counted U i before now DeviceFault counts = inr (i, refl, counts.failed refl)
counted U i before now (Damaged at byte) counts = inl (counts.refused (λ is. absurd (cc (is))))
counted U i before now (Ahead input version found) counts = inl (counts.refused (λ is. absurd (cc (is))))
counted U i before now (Shape windows rows) counts = inl (counts.refused (λ is. absurd (cc (is))))
counted U i before now WantOfMemory counts = inl (counts.refused (λ is. absurd (cc (is))))

-- ---- all devices are back

-- a book that has a device gives it back, and what holds of the device's calls holds of those under its name
pub back_is : {D : Type 0} (device : D → Device) (dev : Option D) (o : Trace) (P : Trace → Type 0) → IsSome dev
    → IfSome dev (λ d. P (device d).trace) → P (trace_after device dev o)
back_is device None o P there holds = absurd (cc (there))
back_is device (Some dev) o P there holds = holds

-- each device stays the same: those of the books that were opened, and the rest
pub all_same : {D : Type 0} (device : D → Device) (groups : List GroupDef) (names : List (String Global))
    (records : List (List Rec)) (old mid new : DeviceTraces) (books : List (ToldBook D)) → AreNamesOf groups names → AreDistinct groups → length books ≤ length groups
    → AreBooksOpened device groups records old books → RestStaysSame (length books) groups old mid
    → AreGivenBack device names books mid new → AreOtherNamesSame (length books) names mid new → AllStaySame groups old new
all_same device groups names records old mid new [] are distinct few opened rest given others i g below =
    let is = unreached groups names 0 i g mid new are distinct (omega arith) below others in
    subst (λ o. During (group_trace_at old (get_or groups i g)) o
    (BookStaysSame (group_definition_text (get_or groups i g)) (group_parts_of (get_or groups i g)) (group_trace_at old (get_or groups i g)))) (sym is)
    (rest i g (omega arith) below)
all_same device groups [] records old mid new (b ∷ bs) are distinct few opened rest given others i g below =
    absurd (omega (arith, few, as_many groups [] are))
all_same device groups (s ∷ ss) records old mid new (b ∷ bs) are distinct few opened rest given others i g below =
    elim (cases_lt i (length (b ∷ bs))) [
      | inl before ↦
          let book = opened.each i g b before in
          let P = λ (o : Trace). During (group_trace_at old (get_or groups i g)) o
          (BookStaysSame (group_definition_text (get_or groups i g)) (group_parts_of (get_or groups i g)) (group_trace_at old (get_or groups i g))) in
          let is = ap new (sym (named_at groups (s ∷ ss) i g s are below))
          ∙ given i b s before (named_at groups (s ∷ ss) i g s are below ∙ sym book.named) in
          subst P (sym is) (back_is device (get_or (b ∷ bs) i b).dev (mid (string_bytes (get_or (s ∷ ss) i s))) P book.has_device book.same)
      | inr behind ↦
          let is = unreached groups (s ∷ ss) (length (b ∷ bs)) i g mid new are distinct behind below others in
          subst (λ o. During (group_trace_at old (get_or groups i g)) o
          (BookStaysSame (group_definition_text (get_or groups i g)) (group_parts_of (get_or groups i g)) (group_trace_at old (get_or groups i g)))) (sym is)
          (rest i g behind below)
    ]

-- the books that were opened have counted no fault
pub all_faultless : {D : Type 0} (device : D → Device) (groups : List GroupDef) (records : List (List Rec))
    (old : DeviceTraces) (books : List (ToldBook D)) (before : ℕ) → length books ≤ length groups
    → AreBooksOpened device groups records old books → before < 2 ^ 64 → counts_after device books before ≡ before
all_faultless device [] records old [] before few opened small = refl
all_faultless device [] records old (b ∷ bs) before few opened small = absurd (omega (arith, few))
all_faultless device (g ∷ gs) records old books before few opened small =
    counts_none device books before small (λ i b below. (opened.each i g b below).faultless)
