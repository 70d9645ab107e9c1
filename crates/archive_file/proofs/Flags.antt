-- The bits of the flags of a summary.
use Rattle.std.proofs.Common.{◌≡◌, ℕ, ◌+◌, ◌*◌, ◌/◌, ◌%◌, ◌≤◌, Bool, cond, eqb, is_some, arith}
use Rattle.trend_num.specs.{Summary}
use Rattle.archive_file.specs.{flag, flags}

-- a bit as a number
abbrev bit : Bool → ℕ
bit b = cond b 1 0

flag-bit : (b : Bool) (k : ℕ) → flag b k ≡ k * bit b
flag-bit b k = grind arith

bit_le : (b : Bool) → bit b ≤ 1
bit_le b = grind arith

tests_bit : (n : ℕ) (b : Bool) → n ≡ bit b → eqb n 1 ≡ b
tests_bit n b is = grind arith

-- a number made of five bits
record HasBits (n : ℕ) (held pending hinge doors tuning : Bool) : Type 0 where
  sum : n ≡ bit held + 2 * bit pending + 4 * bit hinge + 8 * bit doors + 16 * bit tuning
  held_le : bit held ≤ 1
  pending_le : bit pending ≤ 1
  hinge_le : bit hinge ≤ 1
  doors_le : bit doors ≤ 1
  tuning_le : bit tuning ≤ 1

module _ (s : Summary) where
  -- the flags are
  bits : HasBits (flags s) (is_some s.held) (is_some s.pending) (is_some s.hinge) (is_some s.upper) (is_some s.tuning)
  bits = grind (arith, flag-bit, bit_le)

  -- held
  pub held_bit : eqb (flags s % 2) 1 ≡ is_some s.held
  held_bit = let b = bits in tests_bit (flags s % 2) (is_some s.held) (omega (arith, b.sum))

  -- pending
  pub pending_bit : eqb (flags s / 2 % 2) 1 ≡ is_some s.pending
  pending_bit = let b = bits in tests_bit (flags s / 2 % 2) (is_some s.pending) (omega (arith, b.sum))

  -- hinge
  pub hinge_bit : eqb (flags s / 4 % 2) 1 ≡ is_some s.hinge
  hinge_bit = let b = bits in tests_bit (flags s / 4 % 2) (is_some s.hinge) (omega (arith, b.sum))

  -- the doors
  pub doors_bit : eqb (flags s / 8 % 2) 1 ≡ is_some s.upper
  doors_bit = let b = bits in tests_bit (flags s / 8 % 2) (is_some s.upper) (omega (arith, b.sum))

  -- the tuning
  pub tuning_bit : eqb (flags s / 16 % 2) 1 ≡ is_some s.tuning
  tuning_bit = let b = bits in tests_bit (flags s / 16 % 2) (is_some s.tuning) (omega (arith, b.sum))
