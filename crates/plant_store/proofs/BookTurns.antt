-- Groups that are opened one after the other.
use Rattle.std.proofs.Common.{◌≡◌, ◌≢◌, inl, inr, ℕ, ◌+◌, ◌<◌, ◌≤◌, List, [], ◌∷◌, ◌++◌, length, length-append, get_or, string_bytes, Option, None, Some, refl, sym, ◌∙◌, ap, subst, arith}
use Rattle.std.specs.Prelude.{IfSome, String}
use Rattle.std.specs.declared.alloc.Global.{Global}
use Rattle.std.proofs.lemmas.Bool.{cases_eq, cases_order}
use Rattle.std.proofs.lemmas.List.{get_or_append_left, get_or_default}
use Rattle.std.proofs.Math.Seq.{get_or-append_seam}
use Rattle.trend_num.specs.{Rec}
use Rattle.disk_model.specs.{During, Trace, Device}
use Rattle.branded_disk.specs.{IsUnused, Past}
use Rattle.tag_base.specs.{GroupDef}
use Rattle.group_book.specs.{LoadNo, IsBookCause, BookStaysSame, ToldBook}
use Rattle.disk_model.proofs.Moments.{started}
use Rattle.plant_store.specs.Groups.{AreBooksOpened, AreDistinct, AreNamesOf, AreOtherGroupsSame, DeviceTraces, IsBookOpened, device_name, group_parts_of, input_records_of, group_definition_text, group_trace_at, AreGroupsUnused}
use Rattle.plant_store.specs.{AreOtherNamesSame, IsCauseAt, RestStaysSame, StaysSameOf}
use Rattle.plant_store.proofs.BookNames.{apart, as_many, named_at}

-- of a device that is as it was a crash leaves what one before might have left
pub still : (g : GroupDef) (o : Trace) → During o o (BookStaysSame (group_definition_text g) (group_parts_of g) o)
still g o = started o _ (record { each = λ c may. inl may })

pub untouched : (g : GroupDef) (old new : Trace) → new ≡ old → During old new (BookStaysSame (group_definition_text g) (group_parts_of g) old)
untouched g old new same = subst (λ o. During old o (BookStaysSame (group_definition_text g) (group_parts_of g) old)) (sym same) (still g old)

-- what holds of the device of a book, if it has one
pub held_by : {D : Type 0} (dev : Option D) (P : D → Type 0) → ((d : D) → dev ≡ Some d → P d) → IfSome dev P
held_by None P each = tt
held_by (Some d) P each = each d refl

-- the first groups are opened, and no device but theirs has changed
pub record IsSoFar {D : Type 0} (device : D → Device) (groups : List GroupDef)
    (names : List (String Global)) (records : List (List Rec)) (old now : DeviceTraces) (books : List (ToldBook D)) : Type 0 where
  pub opened : AreBooksOpened device groups records old books
  pub others : AreOtherNamesSame (length books) names old now

-- before the first one
pub begun : {D : Type 0} (device : D → Device) (groups : List GroupDef) (names : List (String Global))
    (records : List (List Rec)) (old : DeviceTraces) → IsSoFar device groups names records old old []
begun device groups names records old = record {
  opened = record { each = λ i g b below. absurd (omega (arith, below)) };
  others = λ n none. refl;
}

-- the device of a group that was not reached is as it was
pub unreached : (groups : List GroupDef) (names : List (String Global)) (many i : ℕ) (g : GroupDef) (old now : DeviceTraces)
    → AreNamesOf groups names → AreDistinct groups → many ≤ i → i < length groups → AreOtherNamesSame many names old now
    → group_trace_at now (get_or groups i g) ≡ group_trace_at old (get_or groups i g)
unreached groups names many i g old now are distinct behind below others =
    others (device_name (get_or groups i g).name) (λ k s before same.
    apart groups i k g distinct below (omega (arith, before, behind, below)) (inr (omega (arith, before, behind)))
    (same ∙ named_at groups names k g s are (omega (arith, before, behind, below))))

-- what no name of the groups has is as it was
pub others_same : (groups : List GroupDef) (names : List (String Global)) (many : ℕ) (old now : DeviceTraces)
    → AreNamesOf groups names → many ≤ length groups → AreOtherNamesSame many names old now → AreOtherGroupsSame groups old now
others_same [] names many old now are few others n none = others n (λ k s before same. absurd (omega (arith, before, few)))
others_same (g ∷ gs) names many old now are few others n none = others n (λ k s before same.
    none k g (omega (arith, before, few)) (same ∙ named_at (g ∷ gs) names k g s are (omega (arith, before, few))))

-- one device more
pub one_more_name : (names : List (String Global)) (many : ℕ) (s : String Global) (old now new : DeviceTraces)
    → AreOtherNamesSame many names old now → many < length names
    → ((n : List ℕ) → n ≢ string_bytes (get_or names many s) → new n ≡ now n) → AreOtherNamesSame (many + 1) names old new
one_more_name names many s old now new others below turn n none =
    turn n (none many s (omega arith)) ∙ others n (λ k t before. none k t (omega (arith, before)))

-- one group more
pub next : {D : Type 0} (device : D → Device) (groups : List GroupDef) (names : List (String Global))
    (records : List (List Rec)) (old now new : DeviceTraces) (books : List (ToldBook D)) (g : GroupDef) (s : String Global) (b : ToldBook D)
    → IsSoFar device groups names records old now books → AreNamesOf groups names → AreDistinct groups
    → length books < length groups
    → IsBookOpened device (length books) (get_or groups (length books) g)
    (input_records_of records (get_or groups (length books) g)) (now (string_bytes (get_or names (length books) s))) b
    → ((n : List ℕ) → n ≢ string_bytes (get_or names (length books) s) → new n ≡ now n)
    → IsSoFar device groups names records old new (books ++ b ∷ [])
next {D} device groups names records old now new books g s b so_far are distinct below opened turn = record {
  opened = record {
    each = λ i d e within. elim (cases_eq i k) [
      | inl same ↦ subst (λ j. IsBookOpened device j (get_or groups j d) (input_records_of records (get_or groups j d))
          (group_trace_at old (get_or groups j d)) (get_or (books ++ b ∷ []) j e)) (sym same) (last d e)
      | inr differ ↦ subst (λ x. IsBookOpened device i (get_or groups i d) (input_records_of records (get_or groups i d))
          (group_trace_at old (get_or groups i d)) x) (sym (get_or_append_left books (b ∷ []) e i (earlier i within differ)))
          (so_far.opened.each i d e (earlier i within differ))
    ];
  };
  others = subst (λ many. AreOtherNamesSame many names old new) (sym (length-append books (b ∷ [])))
      (one_more_name names k s old now new so_far.others (omega (arith, below, as_many groups names are)) turn);
}
  where
    k : ℕ
    k = length books

    earlier : (i : ℕ) → i < length (books ++ b ∷ []) → i ≢ length books → i < length books
    earlier i within differ = elim (cases_order i (length books)) [
      | inl same ↦ absurd (differ same)
      | inr (inl before) ↦ before
      | inr (inr behind) ↦ absurd (omega (arith, within, behind, length-append books (b ∷ [])))
    ]

    last : (d : GroupDef) (e : ToldBook D) → IsBookOpened device (length books) (get_or groups (length books) d)
        (input_records_of records (get_or groups (length books) d)) (group_trace_at old (get_or groups (length books) d))
        (get_or (books ++ b ∷ []) (length books) e)
    last d e =
        let trace_is = ap now (named_at groups names (length books) g s are below)
        ∙ unreached groups names (length books) (length books) g old now are distinct (omega arith) below so_far.others in
        subst (λ (x : GroupDef). IsBookOpened device (length books) x (input_records_of records x) (group_trace_at old x)
        (get_or (books ++ b ∷ []) (length books) e)) (get_or_default groups (length books) g d below)
        (subst (λ y. IsBookOpened device (length books) (get_or groups (length books) g)
        (input_records_of records (get_or groups (length books) g)) (group_trace_at old (get_or groups (length books) g)) y)
        (sym (get_or-append_seam books b [] e))
        (subst (λ o. IsBookOpened device (length books) (get_or groups (length books) g)
        (input_records_of records (get_or groups (length books) g)) o b) trace_is opened))

-- the devices from a place on stay the same where the first of them does, and no other was changed
pub rest_same : (groups : List GroupDef) (names : List (String Global)) (many : ℕ) (old now new : DeviceTraces) (g : GroupDef)
    (s : String Global) → AreNamesOf groups names → AreDistinct groups → many < length groups → AreOtherNamesSame many names old now
    → StaysSameOf (string_bytes (get_or names many s)) (get_or groups many g) now new
    → ((n : List ℕ) → n ≢ string_bytes (get_or names many s) → new n ≡ now n) → RestStaysSame many groups old new
rest_same groups names many old now new g s are distinct within others same turn i d behind below = elim (cases_eq i many) [
  | inl is ↦ subst (λ j. During (group_trace_at old (get_or groups j d)) (group_trace_at new (get_or groups j d))
      (BookStaysSame (group_definition_text (get_or groups j d)) (group_parts_of (get_or groups j d)) (group_trace_at old (get_or groups j d)))) (sym is)
      (subst (λ (x : GroupDef). During (group_trace_at old x) (group_trace_at new x) (BookStaysSame (group_definition_text x) (group_parts_of x) (group_trace_at old x)))
      (get_or_default groups many g d within)
      (subst (λ o. During o (group_trace_at new (get_or groups many g)) (BookStaysSame (group_definition_text (get_or groups many g)) (group_parts_of (get_or groups many g)) o))
      (unreached groups names many many g old now are distinct (omega arith) within others)
      (subst (λ n. During (now n) (new n) (BookStaysSame (group_definition_text (get_or groups many g)) (group_parts_of (get_or groups many g)) (now n)))
      (named_at groups names many g s are within) same)))
  | inr differ ↦ untouched (get_or groups i d) _ _
      (turn (device_name (get_or groups i d).name) (λ e. apart groups i many d distinct below within
      (inr (elim (cases_order i many) [
        | inl is ↦ absurd (differ is)
        | inr (inl before) ↦ absurd (omega (arith, before, behind))
        | inr (inr after) ↦ after
      ])) (e ∙ named_at groups names many d s are within))
      ∙ unreached groups names many i d old now are distinct behind below others)
]

-- ---- the group at a place, with the name of its device

-- this is the group at place i, and so its device is called
pub record IsAt (groups : List GroupDef) (names : List (String Global)) (i : ℕ) (g : GroupDef) (n : List ℕ) : Type 0 where
  pub there : i < length groups
  pub is : g ≡ get_or groups i g
  pub named : n ≡ device_name g.name

pub at_place : (groups : List GroupDef) (names : List (String Global)) (i : ℕ) (g : GroupDef) (s : String Global) (n : List ℕ)
    → AreNamesOf groups names → i < length groups → g ≡ get_or groups i g → s ≡ get_or names i s → n ≡ string_bytes s
    → IsAt groups names i g n
at_place groups names i g s n are there is is_name bytes = record {
  there = there;
  is = is;
  named = bytes ∙ ap string_bytes is_name ∙ named_at groups names i g s are there ∙ ap (λ (x : GroupDef). device_name x.name) (sym is);
}

-- the name at the place
name_is : (groups : List GroupDef) (names : List (String Global)) (i : ℕ) (g : GroupDef) (n : List ℕ) (s : String Global)
    → AreNamesOf groups names → IsAt groups names i g n → n ≡ string_bytes (get_or names i s)
name_is groups names i g n s are at =
    at.named ∙ ap (λ (x : GroupDef). device_name x.name) at.is ∙ sym (named_at groups names i g s are at.there)

-- its device is as it was before the first group was opened
was_at : (groups : List GroupDef) (names : List (String Global)) (i : ℕ) (g : GroupDef) (n : List ℕ) (old now : DeviceTraces)
    → AreNamesOf groups names → AreDistinct groups → IsAt groups names i g n → AreOtherNamesSame i names old now
    → now n ≡ group_trace_at old g
was_at groups names i g n old now are distinct at others =
    ap now at.named ∙ subst (λ (x : GroupDef). group_trace_at now x ≡ group_trace_at old x) (sym at.is)
    (unreached groups names i i g old now are distinct (omega arith) at.there others)

-- and it is what it was when the command began, if that is told
pub group_unused : (before : Past) (groups : List GroupDef) (names : List (String Global)) (many i : ℕ) (g : GroupDef) (n : List ℕ)
    (old now : DeviceTraces) → AreNamesOf groups names → AreDistinct groups → many ≡ i → IsAt groups names i g n
    → AreOtherNamesSame many names old now → AreGroupsUnused before groups old → IsUnused before now n
group_unused before groups names many i g n old now are distinct count at others unused =
    let was = was_at groups names i g n old now are distinct at (subst (λ k. AreOtherNamesSame k names old now) count others) in
    subst (λ (x : Trace). IfSome (before n) (λ t. x ≡ t)) (sym was)
    (subst (λ m. IfSome (before m) (λ t. group_trace_at old g ≡ t)) (sym at.named)
    (subst (λ (x : GroupDef). IsUnused before old (device_name x.name)) (sym at.is) (unused i g at.there)))

-- one group more
pub next_at : {D : Type 0} (device : D → Device) (groups : List GroupDef) (names : List (String Global))
    (records : List (List Rec)) (old now new : DeviceTraces) (books : List (ToldBook D)) (i : ℕ) (g : GroupDef) (n : List ℕ) (s : String Global)
    (b : ToldBook D) → IsSoFar device groups names records old now books → AreNamesOf groups names → AreDistinct groups
    → length books ≡ i → IsAt groups names i g n → IsBookOpened device i g (input_records_of records g) (now n) b
    → ((m : List ℕ) → m ≢ n → new m ≡ now m)
    → IsSoFar device groups names records old new (books ++ b ∷ [])
next_at device groups names records old now new books i g n s b so_far are distinct count at opened turn =
    next device groups names records old now new books g s b so_far are distinct (omega (arith, count, at.there))
    (subst (λ k. IsBookOpened device k (get_or groups k g) (input_records_of records (get_or groups k g))
    (now (string_bytes (get_or names k s))) b) (sym count)
    (subst (λ m. IsBookOpened device i (get_or groups i g) (input_records_of records (get_or groups i g)) (now m) b)
    (name_is groups names i g n s are at)
    (subst (λ (x : GroupDef). IsBookOpened device i x (input_records_of records x) (now n) b) at.is opened)))
    (λ m other. turn m (λ same. other (same ∙ name_is groups names i g n s are at ∙ ap (λ k. string_bytes (get_or names k s)) (sym count))))

-- its device stays the same, and no other was changed
pub rest_at : (groups : List GroupDef) (names : List (String Global)) (old now new : DeviceTraces) (many i : ℕ) (g : GroupDef) (n : List ℕ)
    (s : String Global) → AreNamesOf groups names → AreDistinct groups → many ≡ i → IsAt groups names i g n
    → AreOtherNamesSame many names old now → StaysSameOf n g now new → ((m : List ℕ) → m ≢ n → new m ≡ now m)
    → RestStaysSame many groups old new
rest_at groups names old now new many i g n s are distinct count at others same turn =
    rest_same groups names many old now new g s are distinct (omega (arith, count, at.there)) others
    (subst (λ k. StaysSameOf (string_bytes (get_or names k s)) (get_or groups k g) now new) (sym count)
    (subst (λ m. StaysSameOf m (get_or groups i g) now new) (name_is groups names i g n s are at)
    (subst (λ (x : GroupDef). StaysSameOf n x now new) at.is same)))
    (λ m other. turn m (λ is. other (is ∙ name_is groups names i g n s are at ∙ ap (λ k. string_bytes (get_or names k s)) (sym count))))

-- no device but those of the groups has changed
pub others_at : (groups : List GroupDef) (names : List (String Global)) (old now new : DeviceTraces) (many i : ℕ) (g : GroupDef) (n : List ℕ)
    (s : String Global) → AreNamesOf groups names → many ≡ i → IsAt groups names i g n → AreOtherNamesSame many names old now
    → ((m : List ℕ) → m ≢ n → new m ≡ now m) → AreOtherGroupsSame groups old new
others_at groups names old now new many i g n s are count at others turn =
    others_same groups names (many + 1) old new are (omega (arith, count, at.there))
    (one_more_name names many s old now new others (omega (arith, count, at.there, as_many groups names are))
    (λ m other. turn m (λ is. other (is ∙ name_is groups names i g n s are at ∙ ap (λ k. string_bytes (get_or names k s)) (sym count)))))

-- why it is not opened
pub cause_at : (groups : List GroupDef) (names : List (String Global)) (records : List (List Rec)) (old now : DeviceTraces) (many i : ℕ)
    (g : GroupDef) (n : List ℕ) (why : LoadNo) → AreNamesOf groups names → AreDistinct groups → many ≡ i → IsAt groups names i g n
    → AreOtherNamesSame many names old now → IsBookCause (group_definition_text g) (group_parts_of g) (input_records_of records g) (now n) why
    → IsCauseAt many groups records old why
cause_at groups names records old now many i g n why are distinct count at others cause d =
    let place = subst (λ k. g ≡ get_or groups k g) (sym count) at.is in
    let is : g ≡ get_or groups many d = place ∙ get_or_default groups many g d (omega (arith, count, at.there)) in
    let was = was_at groups names i g n old now are distinct at (subst (λ k. AreOtherNamesSame k names old now) count others) in
    subst (λ (x : GroupDef). IsBookCause (group_definition_text x) (group_parts_of x) (input_records_of records x) (group_trace_at old x) why) is
    (subst (λ o. IsBookCause (group_definition_text g) (group_parts_of g) (input_records_of records g) o why) was cause)
