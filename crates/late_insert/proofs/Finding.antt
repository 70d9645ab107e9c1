-- The page for a time, and the page of a place.
use Rattle.std.proofs.Common.{◌≡◌, ℕ, zero, suc, ◌+◌, ◌<◌, ◌≤◌, inl, inr, List, [], ◌∷◌, ◌++◌, length, get_or, take, drop, Option, All, AllPairs, pos, sym, ap, ◌∙◌, subst, arith, length-append}
use Rattle.std.proofs.lemmas.List.{get_or_append_left, get_or_default, drop_all, drop_more}
use Rattle.std.proofs.lemmas.List.Elements.{All-nil, All-cons, All-head, All-tail, All-weaker}
use Rattle.std.proofs.lemmas.Bool.{cases_lt}
use Rattle.trend_num.specs.{Rec}
use Rattle.trend_num.specs.declared.archive.Kind.TheVariants.{Kept}
use Rattle.page_pool.specs.{Frame}
use Rattle.late_insert.specs.{no_summary, Page, IsLastUpto, frame_records_in, records_at, page_in, page_records_of, IsPageAt, ArePagesFrom, ArePages, IsFor}
use Rattle.late_insert.specs.declared.directory.Key.TheVariants.{Time}
use Rattle.trend_model.specs.{IsRising}
use Rattle.trend_model.proofs.Placing.{time, AllBefore, AllAfter, rising_right, rising_across}
use Rattle.late_insert.proofs.Summing.{length-records_in, get_or-records_in}
use Rattle.late_insert.proofs.Joining.{all_left, all_right, records-around, page_at}

-- a record and a page to read past the end of a list
abbrev pub no_rec : Rec
no_rec = record { kind = Kept; point = record { t = 0; v = pos 0 } }

abbrev pub no_page : Page
no_page = record { id = 0; first = 0; start = 0; summary = no_summary }

-- a page that has records
abbrev pub HasSome : List (Option Frame) → Page → Type 0
HasSome pool p = 0 < length (page_in pool p)

-- ---- the starts of pages

-- the start of a page is the time of its first record
pub start_is : (pool : List (Option Frame)) (place : ℕ) (p : Page) (d : Rec) → IsPageAt pool place p
    → HasSome pool p
    → p.start ≡ time (get_or (page_in pool p) 0 d)
start_is pool place p d at some =
    let is : page_in pool p ≡ frame_records_in at.frame = ap records_at at.there in
    let within : 0 < at.frame.len = omega (arith, length-records_in at.frame, ap length is) in
    at.start ∙ (sym (ap time (get_or-records_in at.frame 0 d within))
    ∙ ap (λ l. time (get_or l 0 d)) (sym is))

-- pages whose records are after t start after t
starts_after : (pool : List (Option Frame)) (place t : ℕ) (pages : List Page) → ArePagesFrom pool place pages
    → All (HasSome pool) pages
    → AllAfter t (page_records_of pool pages) → All (λ p. t < p.start) pages
starts_after pool place t [] each some after = All-nil (λ p. t < p.start)
starts_after pool place t (p ∷ ps) each some after =
    let has = All-head (HasSome pool) p ps some in
    let start = start_is pool place p no_rec each.0 has in
    let first = all_left (λ r. t < time r) (page_in pool p) (page_records_of pool ps) after 0 no_rec has in
    let rest : AllAfter t (page_records_of pool ps) = all_right (λ r. t < time r) (page_in pool p)
    (page_records_of pool ps) after in
    All-cons (λ q. t < q.start) p ps (omega arith)
    (starts_after pool (place + length (page_in pool p)) t ps each.1 (All-tail (HasSome pool) p ps some) rest)

starts_from : (pool : List (Option Frame)) (place : ℕ) (pages : List Page) → ArePagesFrom pool place pages
    → All (HasSome pool) pages
    → IsRising (page_records_of pool pages) → AllPairs (λ p q. p.start ≤ q.start) pages
starts_from pool place [] each some rises i j d below within = absurd (omega arith)
starts_from pool place (p ∷ ps) each some rises zero zero d below within = absurd (omega arith)
starts_from pool place (p ∷ ps) each some rises (suc i) zero d below within = absurd (omega arith)
starts_from pool place (p ∷ ps) each some rises zero (suc j) d below within =
    let has = All-head (HasSome pool) p ps some in
    let start = start_is pool place p no_rec each.0 has in
    let after : AllAfter p.start (page_records_of pool ps) = λ k e inside.
    let across = rising_across (page_in pool p) (page_records_of pool ps) rises 0 k e has inside in
    let same : get_or (page_in pool p) 0 e ≡ get_or (page_in pool p) 0 no_rec = get_or_default
    (page_in pool p) 0 e no_rec has in
    let time_same = ap time same in
    omega arith in
    let later = starts_after pool (place + length (page_in pool p)) p.start ps each.1
    (All-tail (HasSome pool) p ps some) after j d (omega arith) in
    omega arith
starts_from pool place (p ∷ ps) each some rises (suc i) (suc j) d below within =
    starts_from pool (place + length (page_in pool p)) ps each.1 (All-tail (HasSome pool) p ps some)
    (rising_right (page_in pool p) (page_records_of pool ps) rises)
    i j d (omega arith) (omega arith)

pub starts_rise : (pool : List (Option Frame)) (pages : List Page) → ArePages pool pages
    → AllPairs (λ p q. p.start ≤ q.start) pages
starts_rise pool pages paged =
    elim (cases_lt 1 (length pages)) [
      | inl several ↦ starts_from pool 0 pages paged.each (paged.filled several) paged.rising
      | inr one ↦ λ i j d below within. absurd (omega arith)
    ]

-- ---- the first places of pages

firsts_from : (pool : List (Option Frame)) (place : ℕ) (pages : List Page) → ArePagesFrom pool place pages
    → All (λ p. place ≤ p.first) pages
firsts_from pool place [] each = All-nil (λ p. place ≤ p.first)
firsts_from pool place (p ∷ ps) each =
    let here = each.0.first in
    All-cons (λ q. place ≤ q.first) p ps (omega arith)
    (All-weaker (λ q. place + length (page_in pool p) ≤ q.first) (λ q. place ≤ q.first) (λ q h. omega arith)
    ps
    (firsts_from pool (place + length (page_in pool p)) ps each.1))

pub firsts_rise : (pool : List (Option Frame)) (place : ℕ) (pages : List Page) → ArePagesFrom pool place pages
    → AllPairs (λ p q. p.first ≤ q.first) pages
firsts_rise pool place [] each i j d below within = absurd (omega arith)
firsts_rise pool place (p ∷ ps) each zero zero d below within = absurd (omega arith)
firsts_rise pool place (p ∷ ps) each (suc i) zero d below within = absurd (omega arith)
firsts_rise pool place (p ∷ ps) each zero (suc j) d below within =
    let here = each.0.first in
    let later = firsts_from pool (place + length (page_in pool p)) ps each.1 j d (omega arith) in
    omega arith
firsts_rise pool place (p ∷ ps) each (suc i) (suc j) d below within =
    firsts_rise pool (place + length (page_in pool p)) ps each.1 i j d (omega arith) (omega arith)

-- ---- the page for a time

-- a rising list whose first time is after t is after t
after_first : (l : List Rec) (t : ℕ) → IsRising l → t < time (get_or l 0 no_rec) → AllAfter t l
after_first l t rises first zero d within = let same = ap time (get_or_default l 0 d no_rec within) in omega
    arith
after_first l t rises first (suc k) d within =
    let same = ap time (get_or_default l 0 d no_rec (omega arith)) in
    let rise = rises 0 (suc k) d (omega arith) within in
    omega arith

module _ (pool : List (Option Frame)) (pages : List Page) (k t : ℕ) (paged : ArePages pool pages)
    (within : k < length pages) (last : IsLastUpto Time pages k t) where
  rising_around : IsRising (page_records_of pool (take k pages) ++
      (page_in pool (get_or pages k no_page) ++ page_records_of pool (drop (k + 1) pages)))
  rising_around = subst IsRising (records-around pool pages k no_page within) paged.rising

  before_found : (0 < k) → AllBefore (page_records_of pool (take k pages)) t
  before_found some i d inside =
      let p = get_or pages k no_page in
      let has : HasSome pool p = paged.filled (omega arith) k no_page within in
      let start = start_is pool _ p d (page_at pool pages k no_page within paged.each) has in
      let begins = last.before k no_page some (omega arith) in
      let rest = page_in pool p ++ page_records_of pool (drop (k + 1) pages) in
      let across = rising_across (page_records_of pool (take k pages)) rest rising_around i 0 d inside
      (omega (arith, length-append (page_in pool p) (page_records_of pool (drop (k + 1) pages)))) in
      let first = ap time (get_or_append_left (page_in pool p) (page_records_of pool (drop (k + 1) pages)) d 0 has)
      in
      omega arith

  after_found : (k + 1 < length pages) → AllAfter t (page_records_of pool (drop (k + 1) pages))
  after_found more =
      let q = get_or pages (k + 1) no_page in
      let has : HasSome pool q = paged.filled (omega arith) (k + 1) no_page more in
      let start = start_is pool _ q no_rec (page_at pool pages (k + 1) no_page more paged.each) has in
      let begins = last.after (k + 1) no_page (omega arith) more in
      let parts = drop_more pages (k + 1) no_page more in
      let first = ap time (get_or_append_left (page_in pool q) (page_records_of pool (drop (k + 1 + 1) pages))
      no_rec 0 has) in
      let rises = rising_right (page_in pool (get_or pages k no_page)) (page_records_of pool (drop (k + 1) pages))
      (rising_right (page_records_of pool (take k pages)) _ rising_around) in
      subst (λ ps. AllAfter t (page_records_of pool ps)) (sym parts)
      (after_first (page_in pool q ++ page_records_of pool (drop (k + 1 + 1) pages)) t
      (subst (λ ps. IsRising (page_records_of pool ps)) parts rises) (omega arith))

  -- the page that was found is the one for the time
  pub found_for : IsFor pool pages k t
  found_for = record {
    within = within;
    before = elim (cases_lt 0 k) [
      | inl some ↦ before_found some
      | inr none ↦ let is : k ≡ 0 = omega arith in rw is (All-nil (λ r. time r < t))
    ];
    after = elim (cases_lt (k + 1) (length pages)) [
      | inl more ↦ after_found more
      | inr none ↦ rw (drop_all (k + 1) pages none) (All-nil (λ r. t < time r))
    ];
  }
