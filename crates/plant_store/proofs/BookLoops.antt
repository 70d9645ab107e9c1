-- A loop that gives books back, one after the other.
use Rattle.std.proofs.Common.{◌≡◌, ◌≢◌, ℕ, ◌+◌, ◌<◌, ◌≤◌, List, ◌∷◌, length, get_or, drop, string_bytes, AllPairs, sym, ◌∙◌, ap, subst, arith}
use Rattle.std.specs.Prelude.{Bool, IsTrue, String}
use Rattle.std.specs.declared.alloc.Global.{Global}
use Rattle.disk_model.specs.{Device}
use Rattle.group_book.specs.{ToldBook}
use Rattle.plant_store.specs.Groups.{DeviceTraces}
use Rattle.plant_store.specs.BookEndings.{IsBackUnder, count_after, counts_after}
use Rattle.plant_store.specs.{HavePlaces}
use Rattle.plant_store.proofs.BookReturns.{AreBack, none_back, one_back}
use Rattle.plant_store.proofs.CellLists.{IsNext, next_of}

-- The devices of the first books are back, as many as `many`. The others are left, as many as `to_come`. The store had
-- these devices, these places and this number of faults before the first one, and has them now.
pub record AreGoingBack {D : Type 0} (device : D → Device) (names : List (String Global))
    (books left : List (ToldBook D)) (many to_come : ℕ) (old now : DeviceTraces) (had has : List ℕ → Bool) (before so_far : ℕ)
    : Type 0 where
  pub rest : drop many books ≡ left
  pub count : to_come ≡ length left
  pub taken : many + to_come ≡ length books
  pub back : AreBack device names books many old now
  pub places : HavePlaces (length books) names has
  pub kept_places : (n : List ℕ) → IsTrue (had n) → IsTrue (has n)
  pub counted : counts_after device books before ≡ counts_after device left so_far

-- before the first
pub begun : {D : Type 0} {device : D → Device} {names : List (String Global)} {books left : List (ToldBook D)}
    {to_come places : ℕ} {old : DeviceTraces} {had : List ℕ → Bool} {before : ℕ} → left ≡ books → to_come ≡ length books
    → HavePlaces places names had → length books ≤ places
    → AreGoingBack device names books left 0 to_come old old had had before before
begun {D} {device} {names} {books} {old = old} {before = before} all long there many = record {
  rest = sym all;
  count = omega (arith, long, ap (length {A = ToldBook D}) all);
  taken = omega (arith, long);
  back = none_back device names books old;
  places = λ i s below. there i s (omega (arith, below, many));
  kept_places = λ n was. was;
  counted = ap (λ l. counts_after device l before) (sym all);
}

-- the store has a place for the name at a place
pub has_place : (names : List (String Global)) {many i : ℕ} {s : String Global} {n : List ℕ} (has : List ℕ → Bool) → i < many
    → s ≡ get_or names i s → n ≡ string_bytes s → HavePlaces many names has → IsTrue (has n)
has_place names {i = i} {s = s} has below at bytes places =
    subst (λ m. IsTrue (has m)) (sym (bytes ∙ ap string_bytes at)) (places i s below)

-- with one book more
pub one_more : {D : Type 0} {device : D → Device} {names : List (String Global)}
    {books left rest : List (ToldBook D)} {many to_come more : ℕ} {old now new : DeviceTraces} {had has holds : List ℕ → Bool}
    {before so_far after : ℕ} {b : ToldBook D} {s : String Global} {n : List ℕ}
    → AreGoingBack device names books left many to_come old now had has before so_far
    → AllPairs (λ a b. string_bytes a ≢ string_bytes b) names → many < length names → left ≡ b ∷ rest → to_come ≡ more + 1
    → s ≡ get_or names many s → n ≡ string_bytes s → IsBackUnder device b n (now n) (new n)
    → ((m : List ℕ) → m ≢ n → new m ≡ now m) → ((m : List ℕ) → IsTrue (has m) → IsTrue (holds m))
    → after ≡ count_after device b.dev so_far
    → AreGoingBack device names books rest (many + 1) more old new had holds before after
one_more {D} {device} {names} {books} {rest = rest} {many = many} {old = old} {now = now} {new = new} {so_far = so_far} {b = b}
    {s = s} {n = n} going distinct named is one at bytes given others stay added = record {
      rest = sym next.rest_is;
      count = omega (arith, going.count, one, ap (length {A = ToldBook D}) is);
      taken = omega (arith, going.taken, one);
      back = one_back device names books many old now new b s distinct named next.there going.back
          (subst (λ m. IsBackUnder device (get_or books many b) m (now m) (new m)) name
          (subst (λ x. IsBackUnder device x n (now n) (new n)) next.is given))
          (λ m other. others m (λ same. other (same ∙ name)));
      places = λ i t below. stay _ (going.places i t below);
      kept_places = λ m was. stay m (going.kept_places m was);
      counted = going.counted ∙ (ap (λ l. counts_after device l so_far) is ∙ ap (counts_after device rest) (sym added));
    }
  where
    next : IsNext books many b rest
    next = next_of books many b rest (going.rest ∙ is)

    name : n ≡ string_bytes (get_or names many s)
    name = bytes ∙ ap string_bytes at
