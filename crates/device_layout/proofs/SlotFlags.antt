-- The flags of a summary as bits of a number.
use Rattle.std.proofs.Common.{◌≡◌, ℕ, ◌+◌, ◌*◌, ◌/◌, ◌%◌, ◌≤◌, Bool, true, cond, not, ◌||◌, leb, eqb, is_some, ap, ◌∙◌, arith}
use Rattle.std.proofs.lemmas.Bool.{agree_below_at, eqb-true, le-leb}
use Rattle.trend_num.specs.{Summary}
use Rattle.archive_file.specs.{flag, flags}

-- ---- which parts occur together

-- held and hinge occur together, and a pending value and doors only together with them
pub record AreBeside (held pending hinge doors : Bool) : Type 0 where
  pub together : held ≡ hinge
  pub pending_after : pending ≡ true → held ≡ true
  pub doors_after : doors ≡ true → held ≡ true

-- the test says so
pub beside : (held hinge pending doors : Bool) → cond held hinge (not (hinge || pending || doors)) ≡ true
    → AreBeside held pending hinge doors
beside held hinge pending doors ok = grind arith

-- and passes where they do
pub beside_passes : (held hinge pending doors : Bool) → AreBeside held pending hinge doors
    → cond held hinge (not (hinge || pending || doors)) ≡ true
beside_passes held hinge pending doors is = grind arith

-- ---- five bits

-- a bit of a number
abbrev bit_of : ℕ → ℕ → Bool
bit_of n bit = eqb (n / bit % 2) 1

-- the number of five bits
abbrev pub five_flags : Bool → Bool → Bool → Bool → Bool → ℕ
five_flags held pending hinge doors tuning =
    flag held 1 + flag pending 2 + flag hinge 4 + flag doors 8 + flag tuning 16

-- that of the last five bits of a number
abbrev flags_in : ℕ → ℕ
flags_in n = five_flags (bit_of n 1) (bit_of n 2) (bit_of n 4) (bit_of n 8) (bit_of n 16)

-- a small number is that of its bits
pub flags_in_is : (n : ℕ) → n ≤ 31 → flags_in n ≡ n
flags_in_is n small = grind (arith, eqb-true, agree_below_at)

-- the flags of a summary, by what is there
pub flags_are : (s : Summary) (h p a d u : Bool) → is_some s.held ≡ h → is_some s.pending ≡ p
    → is_some s.hinge ≡ a → is_some s.upper ≡ d → is_some s.tuning ≡ u → flags s ≡ five_flags h p a d u
flags_are s h p a d u eh ep ea ed eu = λ i. five_flags (eh i) (ep i) (ea i) (ed i) (eu i)

-- the bits of the number of five bits are these
pub record AreBits (n : ℕ) (held pending hinge doors tuning : Bool) : Type 0 where
  pub small : leb n 31 ≡ true
  pub held_bit : bit_of n 1 ≡ held
  pub pending_bit : bit_of n 2 ≡ pending
  pub hinge_bit : bit_of n 4 ≡ hinge
  pub doors_bit : bit_of n 8 ≡ doors
  pub tuning_bit : bit_of n 16 ≡ tuning

-- a flag is one bit, at its place
abbrev bit : Bool → ℕ
bit there = flag there 1

one_bit : (there : Bool) (k : ℕ) → (flag there k ≡ k * bit there) × (bit there ≤ 1) × (eqb (bit there) 1 ≡ there)
one_bit there k = grind arith

-- so they are those of the number
pub bits_of_flags : (h p a d u : Bool) → AreBits (five_flags h p a d u) h p a d u
bits_of_flags h p a d u =
    let n = five_flags h p a d u in
    let x = one_bit h 1 in
    let y = one_bit p 2 in
    let z = one_bit a 4 in
    let v = one_bit d 8 in
    let w = one_bit u 16 in
    let sum : n ≡ bit h + 2 * bit p + 4 * bit a + 8 * bit d + 16 * bit u = omega (arith, y.0, z.0, v.0, w.0) in
    record {
      small = le-leb n 31 (omega (arith, sum, x.1, y.1, z.1, v.1, w.1));
      held_bit = ap (λ k. eqb k 1) (omega (arith, sum, x.1, y.1, z.1, v.1, w.1)) ∙ x.2;
      pending_bit = ap (λ k. eqb k 1) (omega (arith, sum, x.1, y.1, z.1, v.1, w.1)) ∙ y.2;
      hinge_bit = ap (λ k. eqb k 1) (omega (arith, sum, x.1, y.1, z.1, v.1, w.1)) ∙ z.2;
      doors_bit = ap (λ k. eqb k 1) (omega (arith, sum, x.1, y.1, z.1, v.1, w.1)) ∙ v.2;
      tuning_bit = ap (λ k. eqb k 1) (omega (arith, sum, x.1, y.1, z.1, v.1, w.1)) ∙ w.2;
    }
