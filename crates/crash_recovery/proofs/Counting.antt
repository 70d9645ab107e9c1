-- Which summary counts, before and after a change of the slot that does not.
use Rattle.std.proofs.Common.{◌≡◌, ◌≢◌, ◌⊎◌, inl, inr, ⊎_elim, ℕ, ◌<◌, Bool, true, false, List, get_or, take, Option, None, Some, ◌∙◌, ap, arith}
use Rattle.std.proofs.lemmas.Bool.{ne_eqb, eq-eqb, le-leb, lt-leb}
use Rattle.std.specs.{Prelude.nat_le, Prelude.nat_eq, Int.w64, Int.from_be_bytes}
use Rattle.disk_model.specs.{open_byte, IsOpen}
use Rattle.device_layout.specs.declared.slot.Slot.{Slot, TheVariants.First, TheVariants.Second}
use Rattle.device_layout.specs.{summary_gate, slot_bytes, is_open, taken_in, chosen, counting}
use Rattle.crash_recovery.specs.{taken_of, spare_slot}

-- none counts where both gates are closed
none_open : (x y z : Bool) → chosen x y z ≡ None → (x ≡ false) × (y ≡ false)
none_open x1 x2 z is = grind arith

-- the slot that counts is open
first_open : (x y z : Bool) → chosen x y z ≡ Some First → x ≡ true
first_open x1 y z is = grind arith

-- the second one too
second_open : (x y z : Bool) → chosen x y z ≡ Some Second → y ≡ true
second_open x x2 z is = grind arith

-- the other gate is closed, or as it was
none_stays : (x y z x' y' z' : Bool) → chosen x y z ≡ None → y' ≡ y → (x' ≡ false) ⊎ (x' ≡ x)
    → chosen x' y' z' ≡ None
none_stays x y z x' y' z' is same_y gate = grind (arith, none_open)

-- the first one counts still
first_stays : (x y z x' y' z' : Bool) → chosen x y z ≡ Some First → x' ≡ x
    → (y' ≡ false) ⊎ ((y' ≡ y) × (z' ≡ z)) → chosen x' y' z' ≡ Some First
first_stays x y z x' y' z' is same_x x9 = grind (arith, first_open)

-- the second one counts still
second_stays : (x y z x' y' z' : Bool) → chosen x y z ≡ Some Second → y' ≡ y
    → (x' ≡ false) ⊎ ((x' ≡ x) × (z' ≡ z)) → chosen x' y' z' ≡ Some Second
second_stays x y z x' y' z' is same_y x9 = grind (arith, second_open)

-- a gate that is not open
shut_gate : (c : List ℕ) (i : Slot) → get_or c (summary_gate i) 0 ≢ open_byte → is_open c i ≡ false
shut_gate c i shut = ne_eqb (get_or c (summary_gate i) 0) open_byte shut

-- a gate that is as it was
same_gate : (a b : List ℕ) (i : Slot) → get_or b (summary_gate i) 0 ≡ get_or a (summary_gate i) 0
    → is_open b i ≡ is_open a i
same_gate a b i same = ap (λ n. nat_eq n open_byte) same

-- both slots are as they were, so which counts more is
same_order : (a b : List ℕ) → slot_bytes b First ≡ slot_bytes a First → slot_bytes b Second ≡ slot_bytes a
    Second → nat_le (taken_in b Second) (taken_in b First) ≡ nat_le (taken_in a Second) (taken_in a First)
same_order a b first second = grind arith

-- both gates and both slots are as they were
pub same_counting : (a b : List ℕ) → get_or b 384 0 ≡ get_or a 384 0 → get_or b 385 0 ≡ get_or a 385 0
    → slot_bytes b First ≡ slot_bytes a First → slot_bytes b Second ≡ slot_bytes a Second
    → counting b ≡ counting a
same_counting a b first_gate second_gate first second = grind (arith, same_order)

-- the slot that does not count was shut, or is as it was; the other one is as it was
pub record LeavesCounting (counts : Option Slot) (a b : List ℕ) : Type 0 where
  pub others : (i : Slot) → spare_slot counts ≢ i
      → (get_or b (summary_gate i) 0 ≡ get_or a (summary_gate i) 0) × (slot_bytes b i ≡ slot_bytes a i)
  pub spare : (get_or b (summary_gate (spare_slot counts)) 0 ≢ open_byte)
      ⊎ ((get_or b (summary_gate (spare_slot counts)) 0 ≡ get_or a (summary_gate (spare_slot counts)) 0)
      × (slot_bytes b (spare_slot counts) ≡ slot_bytes a (spare_slot counts)))

-- then the same one counts
pub counting_left : (counts : Option Slot) (a b : List ℕ) → counting a ≡ counts → LeavesCounting counts a b
    → counting b ≡ counts
counting_left None a b is leaves =
    let other = leaves.others Second (λ e. absurd (cc (e))) in
    none_stays _ _ _ _ _ _ is (same_gate a b Second other.0)
    (⊎_elim (λ shut. inl (shut_gate b First shut)) (λ same. inr (same_gate a b First same.0)) leaves.spare)
counting_left (Some First) a b is leaves =
    let other = leaves.others First (λ e. absurd (cc (e))) in
    first_stays _ _ _ _ _ _ is (same_gate a b First other.0) (⊎_elim (λ shut. inl (shut_gate b Second shut))
    (λ same. inr (same_gate a b Second same.0, same_order a b other.1 same.1)) leaves.spare)
counting_left (Some Second) a b is leaves =
    let other = leaves.others Second (λ e. absurd (cc (e))) in
    second_stays _ _ _ _ _ _ is (same_gate a b Second other.0) (⊎_elim (λ shut. inl (shut_gate b First shut))
    (λ same. inr (same_gate a b First same.0, same_order a b same.1 other.1)) leaves.spare)

-- the other slot was opened, and counts more events than that which counted: then it is the one that counts
pub counting_new : (counts : Option Slot) (a b : List ℕ) → counting a ≡ counts → ((i : Slot) → spare_slot
    counts ≢ i → (get_or b (summary_gate i) 0 ≡ get_or a (summary_gate i) 0) × (slot_bytes b i ≡ slot_bytes a
    i)) → IsOpen (summary_gate (spare_slot counts)) b → taken_of a counts < taken_in b (spare_slot counts)
    → counting b ≡ Some (spare_slot counts)
counting_new None a b is others opened more =
    let other = others Second (λ e. absurd (cc (e))) in
    let shut = none_open (is_open a First) (is_open a Second) (nat_le (taken_in a Second) (taken_in a First))
    is in
    let z = nat_le (taken_in b Second) (taken_in b First) in
    ap (λ v. chosen v (is_open b Second) z) (eq-eqb (get_or b (summary_gate First) 0) open_byte opened)
    ∙ ap (λ v. chosen true v z) (same_gate a b Second other.0 ∙ shut.1)
counting_new (Some First) a b is others opened more =
    let other = others First (λ e. absurd (cc (e))) in
    let first = first_open (is_open a First) (is_open a Second)
    (nat_le (taken_in a Second) (taken_in a First)) is in
    let same : taken_in b First ≡ taken_in a First = ap (λ l. from_be_bytes w64 (take 8 l)) other.1 in
    let z = nat_le (taken_in b Second) (taken_in b First) in
    ap (λ v. chosen v (is_open b Second) z) (same_gate a b First other.0 ∙ first)
    ∙ ap (λ v. chosen true v z) (eq-eqb (get_or b (summary_gate Second) 0) open_byte opened)
    ∙ ap (λ v. chosen true true v) (lt-leb (taken_in b Second) (taken_in b First) (omega (arith, more, same)))
counting_new (Some Second) a b is others opened more =
    let other = others Second (λ e. absurd (cc (e))) in
    let second = second_open (is_open a First) (is_open a Second)
    (nat_le (taken_in a Second) (taken_in a First)) is in
    let same : taken_in b Second ≡ taken_in a Second = ap (λ l. from_be_bytes w64 (take 8 l)) other.1 in
    let z = nat_le (taken_in b Second) (taken_in b First) in
    ap (λ v. chosen v (is_open b Second) z) (eq-eqb (get_or b (summary_gate First) 0) open_byte opened)
    ∙ ap (λ v. chosen true v z) (same_gate a b Second other.0 ∙ second)
    ∙ ap (λ v. chosen true true v) (le-leb (taken_in b Second) (taken_in b First) (omega (arith, more, same)))
