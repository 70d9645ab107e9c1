-- Books whose devices are given back one after the other.
use Rattle.std.proofs.Common.{◌≡◌, ◌≢◌, inl, inr, ℕ, zero, suc, ◌+◌, ◌^◌, ◌<◌, ◌≤◌, List, [], ◌∷◌, ◌++◌, length, length-append, get_or, drop, string_bytes, AllPairs, Option, None, Some, false, true, refl, sym, ◌∙◌, ap, subst, arith}
use Rattle.std.specs.Prelude.{◌↔◌, String}
use Rattle.std.specs.declared.alloc.Global.{Global}
use Rattle.std.proofs.lemmas.Bool.{cases_eq, cases_order}
use Rattle.std.proofs.lemmas.List.{get_or_append_left, get_or_default}
use Rattle.std.proofs.Math.Seq.{get_or-append_seam}
use Rattle.disk_model.specs.{Device}
use Rattle.group_book.specs.{GroupHistory, ToldBook, faults_of}
use Rattle.plant_store.specs.Groups.{DeviceTraces}
use Rattle.plant_store.specs.BookEndings.{IsBackUnder, IsHistoryOfBook, count_after, counts_after, trace_after}
use Rattle.plant_store.specs.{AreOtherNamesSame}
use Rattle.plant_store.specs.CellClosings.{HasRisen}
use Rattle.plant_store.proofs.BookTurns.{one_more_name}
use Rattle.plant_store.proofs.CellLists.{IsNext, next_of}
use Rattle.plant_store.proofs.Risen.{higher_or_end, sooner_risen, still_risen}

-- ---- the devices of a store

-- the devices of the first books are back, and no other one has changed
pub record AreBack {D : Type 0} (device : D → Device) (names : List (String Global)) (books : List (ToldBook D)) (many : ℕ)
    (old now : DeviceTraces) : Type 0 where
  pub given : (i : ℕ) (b : ToldBook D) (s : String Global) → i < many
      → IsBackUnder device (get_or books i b) (string_bytes (get_or names i s)) (old (string_bytes (get_or names i s)))
      (now (string_bytes (get_or names i s)))
  pub others : AreOtherNamesSame many names old now

pub none_back : {D : Type 0} (device : D → Device) (names : List (String Global)) (books : List (ToldBook D)) (old : DeviceTraces)
    → AreBack device names books 0 old old
none_back device names books old = record { given = λ i b s below. absurd (omega (arith, below)); others = λ n none. refl }

-- two names at two places differ
differ_at : (names : List (String Global)) (i j : ℕ) (s t : String Global) → AllPairs (λ a b. string_bytes a ≢ string_bytes b) names
    → i < j → j < length names → string_bytes (get_or names i s) ≢ string_bytes (get_or names j t)
differ_at names i j s t distinct before below same = distinct i j s before below
    (same ∙ ap string_bytes (get_or_default names j t s below))

-- one book more
pub one_back : {D : Type 0} (device : D → Device) (names : List (String Global)) (books : List (ToldBook D)) (many : ℕ)
    (old now new : DeviceTraces) (b : ToldBook D) (s : String Global) → AllPairs (λ a b. string_bytes a ≢ string_bytes b) names
    → many < length names → many < length books → AreBack device names books many old now
    → IsBackUnder device (get_or books many b) (string_bytes (get_or names many s)) (now (string_bytes (get_or names many s)))
    (new (string_bytes (get_or names many s)))
    → ((n : List ℕ) → n ≢ string_bytes (get_or names many s) → new n ≡ now n) → AreBack device names books (many + 1) old new
one_back {D} device names books many old now new b s distinct named there back given turn = record {
  given = λ i c t within. elim (cases_eq i many) [
    | inl same ↦ subst (λ j. IsBackUnder device (get_or books j c) (string_bytes (get_or names j t))
        (old (string_bytes (get_or names j t))) (new (string_bytes (get_or names j t)))) (sym same) (this c t)
    | inr differ ↦
        let before : i < many = elim (cases_order i many) [
          | inl same ↦ absurd (differ same)
          | inr (inl lt) ↦ lt
          | inr (inr gt) ↦ absurd (omega (arith, gt, within))
        ] in
        λ own. turn (string_bytes (get_or names i t)) (differ_at names i many t s distinct before named) ∙ back.given i c t before own
  ];
  others = one_more_name names many s old now new back.others named turn;
}
  where
    was : now (string_bytes (get_or names many s)) ≡ old (string_bytes (get_or names many s))
    was = back.others (string_bytes (get_or names many s)) (λ k t before same.
        differ_at names k many t s distinct before named (sym same))

    this : (c : ToldBook D) (t : String Global) → IsBackUnder device (get_or books many c) (string_bytes (get_or names many t))
        (old (string_bytes (get_or names many t))) (new (string_bytes (get_or names many t)))
    this c t = subst (λ (x : String Global). IsBackUnder device (get_or books many c) (string_bytes x) (old (string_bytes x)) (new (string_bytes x)))
        (get_or_default names many s t named)
        (subst (λ (x : ToldBook D). IsBackUnder device x (string_bytes (get_or names many s)) (old (string_bytes (get_or names many s)))
        (new (string_bytes (get_or names many s)))) (get_or_default books many b c there)
        (λ own. given own ∙ ap (trace_after device (get_or books many b).dev) was))

-- ---- histories

-- so far each has the history of the book in its place
abbrev pub AreTold : {D : Type 0} → (D → Device) → List (ToldBook D) → List GroupHistory → Type 0
AreTold {D} device books histories = (i : ℕ) (b : ToldBook D) (h : GroupHistory) → i < length histories
    → IsHistoryOfBook device (get_or books i b) (get_or histories i h)

-- with one history more
pub one_told : {D : Type 0} (device : D → Device) (books rest : List (ToldBook D))
    (histories more : List GroupHistory) (many : ℕ) (b : ToldBook D) (h : GroupHistory) → AreTold device books histories
    → length histories ≡ many → drop many books ≡ b ∷ rest → IsHistoryOfBook device b h → more ≡ histories ++ h ∷ []
    → AreTold device books more
one_told {D} device books rest histories more many b h before long left is pushed =
    subst (λ l. AreTold device books l) (sym pushed) all
  where
    this : (c : ToldBook D) → IsHistoryOfBook device (get_or books (length histories) c) h
    this c = subst (λ x. IsHistoryOfBook device x h)
        (sym (get_or_default books (length histories) c b next.there ∙ sym next.is)) is
      where
        next : IsNext books (length histories) b rest
        next = next_of books (length histories) b rest (subst (λ k. drop k books ≡ b ∷ rest) (sym long) left)

    all : AreTold device books (histories ++ h ∷ [])
    all i c d within = elim (cases_eq i (length histories)) [
      | inl same ↦ subst (λ j. IsHistoryOfBook device (get_or books j c) (get_or (histories ++ h ∷ []) j d)) (sym same)
          (subst (λ x. IsHistoryOfBook device (get_or books (length histories) c) x) (sym (get_or-append_seam histories h [] d))
          (this c))
      | inr differ ↦
          let lt : i < length histories = elim (cases_order i (length histories)) [
            | inl same ↦ absurd (differ same)
            | inr (inl lt) ↦ lt
            | inr (inr gt) ↦ absurd (omega (arith, gt, within, length-append histories (h ∷ [])))
          ] in
          subst (λ x. IsHistoryOfBook device (get_or books i c) x) (sym (get_or_append_left histories (h ∷ []) d i lt))
          (before i c d lt)
    ]

-- ---- faults

-- the devices of the books that counted no fault leave the store's count
pub counts_none : {D : Type 0} (device : D → Device) (books : List (ToldBook D)) (before : ℕ) → before < 2 ^ 64
    → ((i : ℕ) (b : ToldBook D) → i < length books → faults_of device (get_or books i b).dev ≡ 0) → counts_after device books before ≡ before
counts_none device [] before small none = refl
counts_none device (b ∷ bs) before small none =
    let one = one_none device b.dev before small (none 0 b (omega arith)) in
    ap (counts_after device bs) one
    ∙ counts_none device bs before small (λ i c below. none (suc i) c (omega (arith, below)))
  where
    one_none : {D : Type 0} (device : D → Device) (dev : Option D) (before : ℕ) → before < 2 ^ 64 → faults_of device dev ≡ 0
        → count_after device dev before ≡ before
    one_none device None before small none = refl
    one_none device (Some dev) before small none = omega (arith, small, none)

-- one device takes none away
one_later : {D : Type 0} (device : D → Device) (dev : Option D) (before : ℕ) → before < 2 ^ 64
    → (before ≤ count_after device dev before) × (count_after device dev before < 2 ^ 64)
one_later device None before small = (omega arith, small)
one_later device (Some dev) before small = (omega (arith, small), omega (arith, small))

-- nor do all
pub counts_later : {D : Type 0} (device : D → Device) (books : List (ToldBook D)) (before : ℕ) → before < 2 ^ 64
    → before ≤ counts_after device books before
counts_later device [] before small = omega arith
counts_later device (b ∷ bs) before small =
    let one = one_later device b.dev before small in
    omega (arith, one.0, counts_later device bs (count_after device b.dev before) one.1)

-- one that counted a fault adds it, up to the end of the type
one_rose : {D : Type 0} (device : D → Device) (dev : Option D) (before : ℕ) → 0 < faults_of device dev
    → HasRisen before (count_after device dev before)
one_rose device None before some = absurd (omega (arith, some))
one_rose device (Some dev) before some = higher_or_end before before (device dev).faults _ refl (omega (arith, some))

-- the count stays within its type
pub counts_small : {D : Type 0} (device : D → Device) (books : List (ToldBook D)) (before : ℕ) → before < 2 ^ 64 → counts_after device books before < 2 ^ 64
counts_small device [] before small = small
counts_small device (b ∷ bs) before small = counts_small device bs (count_after device b.dev before) (one_later device b.dev before small).1

pub counts_rose : {D : Type 0} (device : D → Device) (books : List (ToldBook D)) (before i : ℕ) (d : ToldBook D) → before < 2 ^ 64
    → i < length books → 0 < faults_of device (get_or books i d).dev → HasRisen before (counts_after device books before)
counts_rose device [] before i d small below some = absurd (omega (arith, below))
counts_rose device (b ∷ bs) before zero d small below some =
    let one = one_later device b.dev before small in
    still_risen before (count_after device b.dev before) _ small (counts_later device bs (count_after device b.dev before) one.1)
    (one_rose device b.dev before some)
counts_rose device (b ∷ bs) before (suc i) d small below some =
    let one = one_later device b.dev before small in
    sooner_risen before (count_after device b.dev before) _ one.0
    (counts_rose device bs (count_after device b.dev before) i d one.1 (omega (arith, below)) some)

-- all books are taken out of their list, and the faults of all are added
pub counted_all : {D : Type 0} (device : D → Device) (books rest : List (ToldBook D)) (first now n : ℕ) → ((false ≡ true) ↔ (0 < n))
    → n ≡ length rest → counts_after device books first ≡ counts_after device rest now → now ≡ counts_after device books first
counted_all device books [] first now n none count same = sym same
counted_all device books (b ∷ bs) first now n none count same =
    let end = none.1 (omega (arith, count)) in absurd (cc (end))
