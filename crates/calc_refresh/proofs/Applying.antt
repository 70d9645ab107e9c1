-- What holds of a sheet that is within its limits.
use Rattle.std.proofs.Common.{◌≡◌, ℕ, zero, suc, ◌+◌, ◌-◌, ◌*◌, ◌≤◌, inl, inr, List, [], ◌∷◌, ◌++◌, None, length, All, arith}
use Rattle.std.specs.List.{range_with_len}
use Rattle.std.proofs.Math.Nat.{mul-le-mul_left, mul-le-mul_right}
use Rattle.std.proofs.lemmas.Bool.{cases_lt, le-ltb, lt-ltb}
use Rattle.std.proofs.lemmas.List.Elements.{All-append, All-cons, All-head, All-nil, All-tail}
use Rattle.std.proofs.lemmas.List.Sums.{length-filter}
use Rattle.trend_num.specs.{Rec, InRange, last_time}
use Rattle.sheet_law.specs.{Grid, complete_windows, longer, due_below, is_due}
use Rattle.calc_refresh.specs.{total_length, due_windows, limit_fault, most_cells, most_copies, IsCopy}
use Rattle.calc_refresh.proofs.Passing.{passing_few}
use Rattle.calc_refresh.proofs.Refreshing.{complete_ends}

-- there are no more complete windows than times
pub few_windows : (w : Grid) (rss : List (List Rec)) → 1 ≤ w.period → 1 ≤ length rss
    → All (λ rs. All (λ r. InRange r.point) rs) rss → complete_windows w rss ≤ last_time
few_windows w rss some input each =
    elim (cases_lt 0 (complete_windows w rss)) [
      | inl any ↦
          let k = complete_windows w rss - 1 in
          let ends = complete_ends w rss k (omega arith) (omega arith) each (omega arith) in
          let long : (k + 1) * 1 ≤ (k + 1) * w.period = mul-le-mul_left (k + 1) some in
          omega (arith, ends, long)
      | inr none ↦ omega arith
    ]

-- so many cells are counted in 64 bits
pub cells_fit : (a b : ℕ) → a ≤ last_time → b ≤ 64 → a * b ≤ last_time * 64
cells_fit a b first second = grind (arith, mul-le-mul_left)

-- a limit that is not reported was not reached
pub limits_hold : (cells records : ℕ) → limit_fault cells records ≡ None → (cells ≤ most_cells) × (records ≤ most_copies)
limits_hold cells records none = grind (arith, lt-ltb, le-ltb)

-- each copy is short where all together are few
each_short : (rss : List (List Rec)) (n : ℕ) → total_length rss ≤ n → All (λ rs. length rs ≤ n) rss
each_short [] n few k d within = absurd (omega arith)
each_short (rs ∷ rss) n few zero d within = omega arith
each_short (rs ∷ rss) n few (suc k) d within = each_short rss n (omega arith) k d (omega arith)

pub ranges_longer : (rss mores : List (List Rec)) → All IsCopy rss → All IsCopy mores
    → All (λ rs. All (λ r. InRange r.point) rs) (longer rss mores)
ranges_longer [] mores each also = All-nil (λ l. All (λ r. InRange r.point) l)
ranges_longer (rs ∷ rss) [] each also = λ k d within. (each k d within).range
ranges_longer (rs ∷ rss) (more ∷ mores) each also =
    All-cons (λ l. All (λ r. InRange r.point) l) (rs ++ more) (longer rss mores)
    (All-append (λ r. InRange r.point) rs more (All-head IsCopy rs rss each).range (All-head IsCopy more mores also).range)
    (ranges_longer rss mores (All-tail IsCopy rs rss each) (All-tail IsCopy more mores also))

-- so the copies can be copied again
pub copies_longer : (rss mores : List (List Rec)) → All IsCopy rss → All IsCopy mores
    → total_length (longer rss mores) ≤ most_copies → All IsCopy (longer rss mores)
copies_longer rss mores each also few = grind (arith, each_short, ranges_longer)

-- no more windows are due than there are
pub due_few : (w : Grid) (rss mores : List (List Rec)) (n : ℕ) → length (due_windows w rss mores n) ≤ n
due_few w rss mores n = passing_few (is_due w rss mores) n

-- as many are listed as are counted
pub due_counted : (w : Grid) (rss mores : List (List Rec)) (n : ℕ) → length (due_windows w rss mores n) ≡ due_below w rss mores n
due_counted w rss mores n = length-filter (is_due w rss mores) (range_with_len 0 n)

-- a part of a product
pub part_fits : (a b n m : ℕ) → a ≤ n → n * b ≤ m → a * b ≤ m
part_fits a b n m part whole = (let h : a * b ≤ n * b = mul-le-mul_right b part in omega arith)
