-- How near a point is to a line, where it lies between two that are near.
use Rattle.std.proofs.Common.{◌≡◌, ℕ, suc, ◌+◌, ◌-◌, ◌*◌, ◌≤◌, ◌⊎◌, inl, inr, ℤ, pos, negsuc, ◌-ℤ◌, ◌*ℤ◌, ◌≤ℤ◌, unsigned_abs, ap, arith}
use Rattle.std.proofs.lemmas.Int.{ints, unsigned_abs-mul}
use borrow.Author.Differences.{up, down}
use Rattle.std.proofs.Math.Nat.{mul-le-mul_left, mul-le-mul_right}
use Rattle.trend_num.specs.{Point, Within}

-- a number times itself once less
zero_cross : (x y : ℤ) → (x *ℤ y) -ℤ (x *ℤ y) ≡ pos 0
zero_cross x y = omega (arith, ints)

-- the right end of a line is on it
pub within_right : (a b : Point) (d : ℕ) → Within a b b d
within_right a b d = rw (zero_cross (b.v -ℤ a.v) (pos (b.t - a.t))) (omega arith)

-- and so is the left one
pub within_left : (a b : Point) (d : ℕ) → Within a b a d
within_left a b d = grind (arith, ints)

-- nearer than d is nearer than more
pub within_more : (a b x : Point) (d e : ℕ) → Within a b x d → Within a b x (d + e)
within_more a b x d e h = omega arith

-- a product with a natural number lies between the products with those on either side
product_between : (m : ℤ) (u v w : ℕ) → u ≤ v → v ≤ w
    → ((m *ℤ pos u) ≤ℤ (m *ℤ pos v)) × ((m *ℤ pos v) ≤ℤ (m *ℤ pos w))
    ⊎ ((m *ℤ pos w) ≤ℤ (m *ℤ pos v)) × ((m *ℤ pos v) ≤ℤ (m *ℤ pos u))
product_between (pos m) u v w uv vw =
    let first = mul-le-mul_left m uv in
    let second = mul-le-mul_left m vw in
    inl (omega (arith, ints), omega (arith, ints))
product_between (negsuc m) u v w uv vw =
    let first = mul-le-mul_left (suc m) uv in
    let second = mul-le-mul_left (suc m) vw in
    inr (omega (arith, ints), omega (arith, ints))

-- a difference times a natural number
sub_times : (x y : ℤ) (t : ℕ) → (x -ℤ y) *ℤ pos t ≡ (x *ℤ pos t) -ℤ (y *ℤ pos t)
sub_times x y t =
    let parts : up (x -ℤ y) + down x + up y ≡ down (x -ℤ y) + up x + down y = omega (arith, ints) in
    let times = ap (λ n. n * t) parts in
    omega (arith, ints)

-- the same numbers apart, the same products apart
apart_times : (y s l : ℤ) (t e : ℕ) → unsigned_abs (y -ℤ s) ≤ e
    → unsigned_abs (((y -ℤ l) *ℤ pos t) -ℤ ((s -ℤ l) *ℤ pos t)) ≤ e * t
apart_times y s l t e h =
    let left = sub_times y l t in
    let right = sub_times s l t in
    let whole = sub_times y s t in
    let same : ((y -ℤ l) *ℤ pos t) -ℤ ((s -ℤ l) *ℤ pos t) ≡ (y -ℤ s) *ℤ pos t = omega (arith, ints) in
    rw (same, unsigned_abs-mul (y -ℤ s) (pos t)) (mul-le-mul_right t h)

-- with the line's products in their order, two near values hold the third
between_products : (s y z a b c : ℤ) (d e : ℕ) → unsigned_abs (s -ℤ a) ≤ d → unsigned_abs (z -ℤ c) ≤ d
    → unsigned_abs (y -ℤ s) ≤ e → unsigned_abs (z -ℤ s) ≤ e
    → (a ≤ℤ b) × (b ≤ℤ c) ⊎ (c ≤ℤ b) × (b ≤ℤ a) → unsigned_abs (y -ℤ b) ≤ d + 2 * e
between_products s y z a b c d e sa zc ys zs (inl h) = omega (arith, ints)
between_products s y z a b c d e sa zc ys zs (inr h) = omega (arith, ints)

-- where s and z are within d of a line, and the values of y and z differ by at most e from that of s, which comes
-- before y, as y does before z, then y is within d and twice e of the line
pub within_between : (l r s y z : Point) (d e : ℕ) → Within l r s d → Within l r z d → l.t ≤ s.t
    → s.t ≤ y.t → y.t ≤ z.t → unsigned_abs (y.v -ℤ s.v) ≤ e → unsigned_abs (z.v -ℤ s.v) ≤ e
    → Within l r y (d + 2 * e)
within_between l r s y z d e near_s near_z ls sy yz ys zs =
    let t = r.t - l.t in
    let sum : (d + 2 * e) * t ≡ d * t + 2 * (e * t) = omega arith in
    rw sum (between_products _ _ _ _ _ _ (d * t) (e * t) near_s near_z
    (apart_times y.v s.v l.v t e ys) (apart_times z.v s.v l.v t e zs)
    (product_between (r.v -ℤ l.v) (s.t - l.t) (y.t - l.t) (z.t - l.t) (omega arith) (omega arith)))
