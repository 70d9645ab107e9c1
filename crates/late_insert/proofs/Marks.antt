-- The bits of a number, with one put in between.
use Rattle.std.proofs.Common.{◌≡◌, ℕ, zero, suc, ◌+◌, ◌-◌, ◌*◌, ◌/◌, ◌%◌, ◌^◌, ◌<◌, ◌≤◌, refl, sym, ap, ◌∙◌, subst, arith}
use Rattle.std.proofs.Math.Pow.{pow_pos, pow_mono}
use Rattle.std.proofs.Math.Nat.{pow-suc, le-mul_of_pos_right}
use Rattle.std.specs.Int.{bit_at}
use Rattle.std.specs.Prelude.{bit_and}
use Rattle.trend_num.specs.declared.archive.Kind.TheVariants.{Late}
use Rattle.late_insert.specs.{kind_of}
use Rattle.std.proofs.lemmas.Nat.{div-add-mod', mod_below, mul-add-lt, div-mul-add, mod-mul-add, shr_below, pow-add, one_shl, and_mask}
use Rattle.std.proofs.lemmas.Nat.Bits.{bit_at_cat_low, bit_at_cat_high, bit_at_lowest, bit_at-suc}

-- m with the bit b put in at the place i
abbrev pub with_bit : ℕ → ℕ → ℕ → ℕ
with_bit m i b = (m / 2 ^ i * 2 + b) * 2 ^ i + m % 2 ^ i

module _ (m i : ℕ) where
  low : m % 2 ^ i < 2 ^ i
  low = mod_below m (2 ^ i) (pow_pos i)

  parts : m / 2 ^ i * 2 ^ i + m % 2 ^ i ≡ m
  parts = div-add-mod' m (2 ^ i)

  -- the bits below stay
  pub bit_below : (b k : ℕ) → k < i → bit_at (with_bit m i b) k ≡ bit_at m k
  bit_below b k below =
      bit_at_cat_low (m / 2 ^ i * 2 + b) i (m % 2 ^ i) k below
      ∙ (sym (bit_at_cat_low (m / 2 ^ i) i (m % 2 ^ i) k below) ∙ ap (λ n. bit_at n k) parts)

  -- there it is b
  pub bit_there : (b : ℕ) → b < 2 → bit_at (with_bit m i b) i ≡ b
  bit_there b small =
      let none : i - i ≡ 0 = omega arith in
      bit_at_cat_high (m / 2 ^ i * 2 + b) i (m % 2 ^ i) i low (omega arith)
      ∙ (ap (bit_at (m / 2 ^ i * 2 + b)) none
      ∙ (bit_at_lowest (m / 2 ^ i * 2 + b) ∙ mod-mul-add (m / 2 ^ i) 2 b small))

  -- the bits from there on move up
  pub bit_above : (b k : ℕ) → b < 2 → i ≤ k → bit_at (with_bit m i b) (k + 1) ≡ bit_at m k
  bit_above b k small above =
      let up : k + 1 - i ≡ suc (k - i) = omega arith in
      bit_at_cat_high (m / 2 ^ i * 2 + b) i (m % 2 ^ i) (k + 1) low (omega arith)
      ∙ (ap (bit_at (m / 2 ^ i * 2 + b)) up
      ∙ (bit_at-suc (m / 2 ^ i * 2 + b) (k - i)
      ∙ (ap (λ n. bit_at n (k - i)) (div-mul-add (m / 2 ^ i) 2 b small)
      ∙ (sym (bit_at_cat_high (m / 2 ^ i) i (m % 2 ^ i) k low above) ∙ ap (λ n. bit_at n k) parts))))

  -- a bit more is enough
  pub with_bit_fits : (b n : ℕ) → b < 2 → i ≤ n → m < 2 ^ n → with_bit m i b < 2 ^ (n + 1)
  with_bit_fits b n small within fits =
      let split : n - i + i ≡ n = omega arith in
      let high : m / 2 ^ i < 2 ^ (n - i) = shr_below m (n - i) i (subst (λ e. m < 2 ^ e) (sym split) fits) in
      let more : m / 2 ^ i * 2 + b < 2 ^ suc (n - i) = omega (arith, pow-suc 2 (n - i)) in
      let whole = mul-add-lt (m / 2 ^ i * 2 + b) (2 ^ i) (m % 2 ^ i) (2 ^ suc (n - i)) more low in
      let joined : i + suc (n - i) ≡ n + 1 = omega arith in
      subst (λ e. with_bit m i b < e) (sym (pow-add 2 i (suc (n - i))) ∙ ap (λ e. 2 ^ e) joined) whole

-- what a mark takes at most
pub pow_within : (n : ℕ) → n ≤ 128 → 2 ^ n ≤ 2 ^ 128
pow_within n few = pow_mono {i = n} {j = 128} few

-- what the shifts and the mask of the code compute
pub with_bit_is : (m i b : ℕ) → i < 128
    → (m / 2 ^ i * 2 + b) * (1 * 2 ^ i % 2 ^ 128) + bit_and m (1 * 2 ^ i % 2 ^ 128 - 1) ≡ with_bit m i b
with_bit_is m i b within = rw (one_shl i 128 within, and_mask) refl

-- none of it is too large
pub with_bit_small : (m i b n : ℕ) → b < 2 → i ≤ n → n < 128 → m < 2 ^ n
    → (m / 2 ^ i * 2 + b < 2 ^ 128) × ((m / 2 ^ i * 2 + b) * 2 ^ i < 2 ^ 128) × (with_bit m i b < 2 ^ 128)
with_bit_small m i b n small within few fits =
    let whole = with_bit_fits m i b n small within fits in
    let most = pow_within (n + 1) (omega arith) in
    let up : m / 2 ^ i * 2 + b ≤ (m / 2 ^ i * 2 + b) * 2 ^ i = le-mul_of_pos_right (m / 2 ^ i * 2 + b)
    (pow_pos i) in
    (omega arith, omega arith, omega arith)

-- a mark that is set is a bit that is 1
pub kind_set : (n : ℕ) → n < 2 → (n ≡ 0 → ⊥) → kind_of n ≡ Late
kind_set zero small set = absurd (set refl)
kind_set (suc n) small set = refl
