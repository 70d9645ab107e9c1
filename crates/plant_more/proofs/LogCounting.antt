-- There are fewer puts than rows where a collector lacks one.
use Rattle.std.proofs.Common.{◌≡◌, ℕ, zero, suc, ◌+◌, ◌<◌, ◌≤◌, Bool, true, false, List, [], ◌∷◌, length, get_or, take, refl, sym, ap, ◌∙◌, subst, inl, inr, arith}
use Rattle.std.specs.Prelude.{◌≢◌, nat_eq, if◌then◌else◌, slice_index, sum_by}
use Rattle.std.proofs.Math.Seq.{take-suc}
use Rattle.std.proofs.lemmas.List.{length-take-le, take_all}
use Rattle.std.proofs.lemmas.List.Sums.{sum_by-append}
use Rattle.std.proofs.lemmas.Bool.{cases_eq, cases_lt}
use Rattle.value_rows.specs.{RawRow}
use Rattle.commit_log.specs.{LogTurn, LogRow, puts}
use Rattle.plant_more.specs.LogFinding.{AreFound, rows_by, rows_in}
use Rattle.plant_more.specs.{total_rows}
use Rattle.plant_more.proofs.LogRows.{rows_in_at, rows_length, rows_of_none}

-- one, where two numbers are the same
abbrev hit : ℕ → ℕ → ℕ
hit m n = if nat_eq m n then 1 else 0

-- how many of these rows are of the first collectors
abbrev count_below : ℕ → List LogRow → ℕ
count_below zero ps = 0
count_below (suc n) ps = count_below n ps + length (rows_by n ps)

-- how often a number is below another
abbrev hits_below : ℕ → ℕ → ℕ
hits_below zero c = 0
hits_below (suc n) c = hits_below n c + hit c n

-- one row more
by_cons : (n : ℕ) (p : LogRow) (ps : List LogRow) → length (rows_by n (p ∷ ps)) ≡ length (rows_by n ps) + hit p.collector n
by_cons n p ps = by_test (nat_eq p.collector n) refl
  where
    by_test : (b : Bool) → nat_eq p.collector n ≡ b → length (rows_by n (p ∷ ps)) ≡ length (rows_by n ps) + hit p.collector n
    by_test true is = rw is (omega arith)
    by_test false is = rw is (omega arith)

count_cons : (n : ℕ) (p : LogRow) (ps : List LogRow) → count_below n (p ∷ ps) ≡ count_below n ps + hits_below n p.collector
count_cons zero p ps = omega arith
count_cons (suc n) p ps =
    let rest : count_below n (p ∷ ps) ≡ count_below n ps + hits_below n p.collector = count_cons n p ps in
    let here : length (rows_by n (p ∷ ps)) ≡ length (rows_by n ps) + hit p.collector n = by_cons n p ps in
    omega (arith, rest, here)

count_none : (n : ℕ) → count_below n [] ≡ 0
count_none zero = refl
count_none (suc n) = omega (arith, count_none n)

-- a number is hit by itself alone
hit_same : (m n : ℕ) → m ≡ n → hit m n ≡ 1
hit_same m n same = grind arith

hit_other : (m n : ℕ) → m ≢ n → hit m n ≡ 0
hit_other m n other = grind arith

above_none : (n c : ℕ) → n ≤ c → hits_below n c ≡ 0
above_none zero c most = refl
above_none (suc n) c most =
    let rest : hits_below n c ≡ 0 = above_none n c (omega arith) in
    let here : hit c n ≡ 0 = hit_other c n (λ same. absurd (omega (arith, same))) in
    omega (arith, rest, here)

-- a number that is at most another and not the same is below it
apart : (c n : ℕ) → c < suc n → c ≢ n → c < n
apart c n less other = elim (cases_lt c n) [
  | inl below ↦ below
  | inr above ↦ absurd (other (omega (arith, less, above)))
]

below_one : (n c : ℕ) → c < n → hits_below n c ≡ 1
below_one zero c less = absurd (omega arith)
below_one (suc n) c less = elim (cases_eq c n) [
  | inl same ↦
      let rest : hits_below n c ≡ 0 = above_none n c (omega (arith, same)) in
      let here : hit c n ≡ 1 = hit_same c n same in omega (arith, rest, here)
  | inr other ↦
      let rest : hits_below n c ≡ 1 = below_one n c (apart c n less other) in
      let here : hit c n ≡ 0 = hit_other c n other in omega (arith, rest, here)
]

-- rows that are of the first collectors alone
count_all : (n : ℕ) (ps : List LogRow) → ((c : ℕ) → n ≤ c → length (rows_by c ps) ≡ 0) → length ps ≡ count_below n ps
count_all n [] none = sym (count_none n)
count_all n (p ∷ ps) none =
    let rest : length ps ≡ count_below n ps = count_all n ps (λ c above. omega (arith, none c above, by_cons c p ps)) in
    elim (cases_lt p.collector n) [
      | inl less ↦ omega (arith, rest, count_cons n p ps, below_one n p.collector less)
      | inr above ↦ absurd (omega (arith, none p.collector above, by_cons p.collector p ps, hit_same p.collector p.collector refl))
    ]

module _ (files : List (List RawRow)) (ps : List LogRow) (few : (c : ℕ) → length (rows_by c ps) ≤ length (rows_in files c)) where
  -- the rows of the first collectors and of one more
  sum_more : (n : ℕ) → n < length files → sum_by length (take (suc n) files) ≡ sum_by length (take n files) + length (rows_in files n)
  sum_more n within =
      let file : length (rows_in files n) ≡ length (get_or files n []) =
      ap length (rows_in_at files n [] within) ∙ rows_length n 1 (get_or files n []) in
      let cut : sum_by length (take (suc n) files) ≡ sum_by length (take n files) + sum_by length (get_or files n [] ∷ []) =
      ap (sum_by length) (take-suc files n [] within) ∙ sum_by-append length (take n files) (get_or files n [] ∷ []) in
      omega (arith, file, cut)

  -- no more are put than there are
  count_most : (n : ℕ) → n ≤ length files → count_below n ps ≤ sum_by length (take n files)
  count_most zero within = omega arith
  count_most (suc n) within =
      let rest : count_below n ps ≤ sum_by length (take n files) = count_most n (omega arith) in
      omega (arith, rest, few n, sum_more n (omega arith))

  -- and fewer where one lacks
  count_fewer : (lacking n : ℕ) → n ≤ length files → lacking < n → length (rows_by lacking ps) < length (rows_in files lacking)
      → count_below n ps < sum_by length (take n files)
  count_fewer lacking zero within less lacks = absurd (omega arith)
  count_fewer lacking (suc n) within less lacks = elim (cases_eq lacking n) [
    | inl same ↦
        let here : length (rows_by n ps) < length (rows_in files n) =
        subst (λ (c : ℕ). length (rows_by c ps) < length (rows_in files c)) same lacks in
        omega (arith, count_most n (omega arith), here, sum_more n (omega arith))
    | inr other ↦
        omega (arith, count_fewer lacking n (omega arith) (apart lacking n less other) lacks, few n, sum_more n (omega arith))
  ]

-- where rows of a collector were not found, fewer were put than there are in all
pub few_puts : (files : List (List RawRow)) (tape : List LogTurn) (next : List ℕ) (lacking : ℕ) → AreFound files tape next
    → lacking < length files → slice_index next lacking < length (rows_in files lacking) → length (puts tape) < total_rows files
few_puts files tape next lacking found within lacks =
    let all : length (puts tape) ≡ count_below (length files) (puts tape) =
    count_all (length files) (puts tape) (λ c past. omega (arith, put_count c, found.within c, ap length (rows_of_none files c past))) in
    let fewer : count_below (length files) (puts tape) < sum_by length (take (length files) files) =
    count_fewer files (puts tape) (λ c. omega (arith, put_count c, found.within c)) lacking (length files) (omega arith) within
    (omega (arith, put_count lacking, lacks)) in
    let whole : sum_by length (take (length files) files) ≡ total_rows files =
    ap (sum_by length) (take_all (length files) files (omega arith)) in
    omega (arith, all, fewer, whole)
  where
    put_count : (c : ℕ) → length (rows_by c (puts tape)) ≡ slice_index next c
    put_count c = ap length (found.each c) ∙ length-take-le (slice_index next c) (rows_in files c) (found.within c)
