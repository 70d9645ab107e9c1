-- The windows that meet a stretch, and the neighbours of a time.
use Rattle.std.proofs.Common.{◌≡◌, ℕ, zero, suc, ◌+◌, ◌-◌, ◌*◌, ◌/◌, ◌<◌, ◌≤◌, inl, inr, nat_lt, nat_le, List, [], ◌∷◌, All, Contains, None, Some, refl, sym, ap, arith}
use Rattle.std.specs.Prelude.{◌&&◌, filter}
use Rattle.std.proofs.Math.Nat.{div-lt_iff_lt-mul, le-div_iff_mul-le}
use Rattle.std.proofs.lemmas.Bool.{cases_lt, lt-ltb, le-ltb}
use Rattle.std.proofs.lemmas.Bool.Decides.{nat_tests}
use Rattle.std.proofs.lemmas.List.Elements.{All-head, All-tail}
use Rattle.trend_num.specs.{Rec, Point}
use Rattle.trend_model.specs.{IsCeil, IsFloor, IsRising, points_of, IsAmong}
use Rattle.trend_model.proofs.Placing.{time, rising_head, rising_tail}
use Rattle.sheet_law.specs.{Grid, window_from, window_to, first_or, last_or, stretch_from, stretch_to, times_of}
use Rattle.sheet_law.proofs.Stretch.{starts_from}

-- ---- the windows that meet a stretch

-- two tests of numbers that hold together are one
same_test : (a b c d : ℕ) → (a ≤ b → c ≤ d) → (c ≤ d → a ≤ b) → nat_le a b ≡ nat_le c d
same_test a b c d on back = grind (arith, nat_tests)

product : (a b : ℕ) → (a + 1) * b ≡ a * b + b
product a b = grind arith

-- the windows from this one on do not end before a time
first_met : (w : Grid) (lo k : ℕ) → 0 < w.period
    → nat_le ((lo - w.start - 1) / w.period) k ≡ nat_le lo (window_to w k)
first_met w lo k some = grind (arith, div-lt_iff_lt-mul, same_test, product)

-- and those before this one do not start after it
last_met : (w : Grid) (hi k : ℕ) → 0 < w.period
    → nat_lt k ((hi + w.period - w.start) / w.period) ≡ nat_le (window_from w k) hi
last_met w hi k some = grind (arith, le-div_iff_mul-le, same_test, product, nat_tests)

-- the windows that meet a stretch lie one after another
pub met_are : (w : Grid) (lo hi k first behind : ℕ) → 0 < w.period → first ≡ (lo - w.start - 1) / w.period
    → behind ≡ (hi + w.period - w.start) / w.period
    → (nat_le first k && nat_lt k behind) ≡ (nat_le lo (window_to w k) && nat_le (window_from w k) hi)
met_are w lo hi k first behind some first_is behind_is = grind (arith, first_met, last_met)

-- ---- neighbours

-- the time of a point of a content is one of its times
pub time_among : (l : List Rec) (p : Point) → Contains (points_of l) p → IsAmong p.t (times_of l)
time_among [] p there = absurd (let h = there.1 in omega arith)
time_among (r ∷ l) p (zero, within, same) = inl (ap (λ (q : Point). q.t) (sym same))
time_among (r ∷ l) p (suc k, within, same) = inr (time_among l p (k, omega arith, same))

-- the last time before t is not above m
not_above : (t m d : ℕ) (l : List Rec) → d ≤ m → All (λ r. time r < t → time r ≤ m) l
    → last_or d (filter (λ n. nat_lt n t) (times_of l)) ≤ m
not_above t m d [] low each = low
not_above t m d (x ∷ l) low each =
    let rest = All-tail (λ r. time r < t → time r ≤ m) x l each in
    elim (cases_lt (time x) t) [
      | inl before ↦
          rw (lt-ltb (time x) t before)
          (not_above t m (time x) l (All-head (λ r. time r < t → time r ≤ m) x l each before) rest)
      | inr after ↦ rw (le-ltb (time x) t after) (not_above t m d l low rest)
    ]

-- nor where m is one of the times, whatever was there
no_later : (t m d : ℕ) (l : List Rec) → IsAmong m (times_of l) → m < t → All (λ r. time r < t → time r ≤ m) l
    → last_or d (filter (λ n. nat_lt n t) (times_of l)) ≤ m
no_later t m d [] in_it before each = absurd in_it
no_later t m d (x ∷ l) in_it before each =
    let rest = All-tail (λ r. time r < t → time r ≤ m) x l each in
    elim (cases_lt (time x) t) [
      | inl early ↦
          rw (lt-ltb (time x) t early)
          (not_above t m (time x) l (All-head (λ r. time r < t → time r ≤ m) x l each early) rest)
      | inr late ↦ rw (le-ltb (time x) t late) (elim in_it [
        | inl same ↦ absurd (omega arith)
        | inr later ↦ no_later t m d l later before rest
      ])
    ]

-- the floor of the moment before a time is where its stretch starts
pub floor_some : (l : List Rec) (u t : ℕ) (p : Point) → IsRising l → IsFloor u l (Some p) → u + 1 ≡ t
    → p.t ≡ stretch_from l t
floor_some l u t p rises floor next =
    let in_it = time_among l p floor.0 in
    let under : p.t ≤ u = floor.1 in
    let low = starts_from l t p.t t rises in_it (omega arith) in
    let high = no_later t p.t t l in_it (omega arith) (λ k d within early. floor.2 k d within (omega arith)) in
    omega arith

pub floor_none : (l : List Rec) (u t : ℕ) → IsFloor u l None → u + 1 ≡ t → t ≡ stretch_from l t
floor_none l u t none next = sym (nothing l none)
  where
    nothing : (m : List Rec) → All (λ r. u < time r) m → last_or t (filter (λ n. nat_lt n t) (times_of m)) ≡ t
    nothing [] each = refl
    nothing (x ∷ m) each =
        let head : u < time x = All-head (λ r. u < time r) x m each in
        rw (le-ltb (time x) t (omega arith)) (nothing m (All-tail (λ r. u < time r) x m each))

-- no time is before 0
pub starts_at_zero : (l : List Rec) (t : ℕ) → t ≡ 0 → t ≡ stretch_from l t
starts_at_zero l t is = sym (nothing l)
  where
    nothing : (m : List Rec) → last_or t (filter (λ n. nat_lt n t) (times_of m)) ≡ t
    nothing [] = refl
    nothing (x ∷ m) = rw (le-ltb (time x) t (omega arith)) (nothing m)

-- the first record of a rising list is before the times of the others
behind : (x : Rec) (m : List Rec) → IsRising (x ∷ m) → (n : ℕ) → IsAmong n (times_of m) → time x < n
behind x [] rising n in_it = absurd in_it
behind x (y ∷ m) rising n in_it =
    let next : time x < time y = All-head (λ r. time x < time r) y m (rising_head x (y ∷ m) rising) in
    elim in_it [
      | inl same ↦ omega arith
      | inr later ↦ let more = behind y m (rising_tail x (y ∷ m) rising) n later in omega arith
    ]

-- the ceiling of the moment after a time is where its stretch ends
pub ceil_some : (l : List Rec) (t u : ℕ) (p : Point) → IsRising l → IsCeil u l (Some p) → u ≡ t + 1
    → p.t ≡ stretch_to l t
ceil_some l t u p rises ceil next =
    let above : u ≤ p.t = ceil.1 in
    sym (first l rises (time_among l p ceil.0) (λ k d within late. ceil.2 k d within (omega arith)))
  where
    first : (m : List Rec) → IsRising m → IsAmong p.t (times_of m) → All (λ r. t < time r → p.t ≤ time r) m
        → first_or t (filter (λ n. nat_lt t n) (times_of m)) ≡ p.t
    first [] rising in_it each = absurd in_it
    first (x ∷ m) rising in_it each =
        let above : u ≤ p.t = ceil.1 in
        elim (cases_lt t (time x)) [
          | inl after ↦
              let low = All-head (λ r. t < time r → p.t ≤ time r) x m each after in
              rw (lt-ltb t (time x) after) (elim in_it [
                | inl same ↦ sym same
                | inr later ↦ let high = behind x m rising p.t later in omega arith
              ])
          | inr before ↦ rw (le-ltb t (time x) before) (elim in_it [
            | inl same ↦ absurd (omega arith)
            | inr later ↦ first m (rising_tail x m rising) later (All-tail (λ r. t < time r → p.t ≤ time r) x m each)
          ])
        ]

pub ceil_none : (l : List Rec) (t u : ℕ) → IsCeil u l None → u ≡ t + 1 → t ≡ stretch_to l t
ceil_none l t u none next = sym (nothing l none)
  where
    nothing : (m : List Rec) → All (λ r. time r < u) m → first_or t (filter (λ n. nat_lt t n) (times_of m)) ≡ t
    nothing [] each = refl
    nothing (x ∷ m) each =
        let head : time x < u = All-head (λ r. time r < u) x m each in
        rw (le-ltb t (time x) (omega arith)) (nothing m (All-tail (λ r. time r < u) x m each))

-- what is not above a bound among all is not where it is found
pub ceil_bound : (l : List Rec) (p : Point) (bound : ℕ) → Contains (points_of l) p → All (λ r. time r ≤ bound) l
    → p.t ≤ bound
ceil_bound l p bound there each = go l each (time_among l p there)
  where
    go : (m : List Rec) → All (λ r. time r ≤ bound) m → IsAmong p.t (times_of m) → p.t ≤ bound
    go [] each in_it = absurd in_it
    go (x ∷ m) each in_it =
        let head : time x ≤ bound = All-head (λ r. time r ≤ bound) x m each in
        elim in_it [
          | inl same ↦ omega arith
          | inr later ↦ go m (All-tail (λ r. time r ≤ bound) x m each) later
        ]
