-- A search by halves.
use Rattle.std.proofs.Common.{◌≡◌, ℕ, ◌-◌, ◌<◌, ◌≤◌, inl, inr, List, length, get_or, AllPairs, ap, arith}
use Rattle.std.proofs.lemmas.List.{get_or_default}
use Rattle.std.proofs.lemmas.Bool.{cases_eq}
use Rattle.late_insert.specs.{Page}

-- the numbers before `low` are less than x, and those from `high` on are not
pub record IsHalving (xs : List ℕ) (x low high : ℕ) : Type 0 where
  pub ordered : low ≤ high
  pub within : high ≤ length xs
  pub less : (k : ℕ) → k < low → get_or xs k 0 < x
  pub more : (k : ℕ) → high ≤ k → k < length xs → x ≤ get_or xs k 0

-- the pages up to `low` begin at x or before it, by this number of a page, and those from `high` on begin
-- after it
pub record IsHalved (begin : Page → ℕ) (pages : List Page) (x low high : ℕ) : Type 0 where
  pub ordered : low < high
  pub within : high ≤ length pages
  pub less : (k : ℕ) (d : Page) → 0 < k → k ≤ low → begin (get_or pages k d) ≤ x
  pub more : (k : ℕ) (d : Page) → high ≤ k → k < length pages → x < begin (get_or pages k d)

-- where the last page begins at x or before it, so does each
pub all_early : (begin : Page → ℕ) (pages : List Page) (x : ℕ) (e : Page)
    → AllPairs (λ p q. begin p ≤ begin q) pages → 0 < length pages
    → begin (get_or pages (length pages - 1) e) ≤ x → (k : ℕ) (d : Page) → k ≤ length pages - 1
    → begin (get_or pages k d) ≤ x
all_early begin pages x e rising some early k d upto =
    let same : begin (get_or pages (length pages - 1) d) ≡ begin (get_or pages (length pages - 1) e) =
    ap begin (get_or_default pages (length pages - 1) d e (omega arith)) in
    elim (cases_eq k (length pages - 1)) [
      | inl last ↦ rw last (omega arith)
      | inr other ↦
          let rise : begin (get_or pages k d) ≤ begin (get_or pages (length pages - 1) d) = rising k
          (length pages - 1) d (omega arith) (omega arith) in
          omega arith
    ]

module _ (begin : Page → ℕ) (pages : List Page) (x low high middle : ℕ) (e : Page)
    (rising : AllPairs (λ p q. begin p ≤ begin q) pages)
    (halved : IsHalved begin pages x low high) (up : low < middle) (down : middle < high) where
  at_middle : (d : Page) → begin (get_or pages middle d) ≡ begin (get_or pages middle e)
  at_middle d = ap begin (get_or_default pages middle d e (omega (arith, halved.within)))

  -- the page in the middle begins at x or before it
  pub halved_up : begin (get_or pages middle e) ≤ x → IsHalved begin pages x middle high
  halved_up early = record {
    ordered = down;
    within = halved.within;
    less = λ k d some upto. elim (cases_eq k middle) [
      | inl same ↦ let here = at_middle d in rw same (omega arith)
      | inr other ↦
          let rise : begin (get_or pages k d) ≤ begin (get_or pages middle d) = rising k middle d
          (omega arith) (omega (arith, halved.within)) in
          let here = at_middle d in
          omega arith
    ];
    more = halved.more;
  }

  -- it begins after x
  pub halved_down : x < begin (get_or pages middle e) → IsHalved begin pages x low middle
  halved_down late = record {
    ordered = up;
    within = omega (arith, halved.within);
    less = halved.less;
    more = λ k d from inside. elim (cases_eq k middle) [
      | inl same ↦ let here = at_middle d in rw same (omega arith)
      | inr other ↦
          let rise : begin (get_or pages middle d) ≤ begin (get_or pages k d) = rising middle k d
          (omega arith) inside in
          let here = at_middle d in
          omega arith
    ];
  }
