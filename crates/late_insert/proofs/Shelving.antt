-- What the code makes of a list of pages.
use Rattle.std.proofs.Common.{◌≡◌, ℕ, zero, suc, ◌+◌, ◌-◌, ◌^◌, ◌<◌, ◌≤◌, List, [], ◌∷◌, ◌++◌, length, map, get_or, set, take, drop, Option, Some, All, sym, ap, ap₂, ◌∙◌, subst, arith, append_assoc, append-nil, length-append, add-one, inl}
use Rattle.std.proofs.Common.{inr}
use Rattle.std.proofs.lemmas.List.{take_more_set, drop-set-lt, get_or_default, length-set, length-take-le, get_or_at, get_or-set_same, drop_all, take_all, get_or-set_other}
use Rattle.std.proofs.lemmas.List.Edits.{get_or-insert_at, get_or-insert_below, get_or-insert_above, length-insert}
use Rattle.std.proofs.lemmas.Bool.{cases_eq, cases_lt}
use Rattle.late_insert.proofs.Finding.{found_for, no_page}
use Rattle.std.specs.Prelude.{insert}
use Rattle.std.proofs.lemmas.List.Elements.{All-nil, All-cons, All-set}
use Rattle.trend_num.specs.{Rec}
use Rattle.page_pool.specs.{Frame, TakesFrame, empty_frame}
use Rattle.late_insert.specs.{Page, Summary, summary_of, IsLastUpto, moved, frame_records_in, records_at, page_in, page_records_of, IsPage, ArePagesFrom, IsPageRead, ArePages, IsFor, IsHalfFor, IsSplit, lengths_of, IsGrown, place_in}
use Rattle.trend_model.specs.{placed, points_of}
use Rattle.late_insert.specs.declared.directory.Key.TheVariants.{Time}
use Rattle.trend_model.proofs.Placing.{time, placed_middle, AllBefore}
use Rattle.late_insert.proofs.Summing.{length-records_in}
use Rattle.late_insert.proofs.Joining.{all_left, pages_around, records-around, lengths-around}
use Rattle.late_insert.proofs.Replacing.{pages_put, records-put, lengths-put, pages_in_halves, records-split, lengths-split, low_len, high_len}
use Rattle.late_insert.proofs.Growing.{place_from, place_upto}
use Rattle.late_insert.proofs.Reading.{end_within}

-- the last of n pages is the one for a time after all records
pub last_for : (pool : List (Option Frame)) (pages : List Page) (n t : ℕ) → ArePages pool pages → n ≡ length pages
    → AllBefore (page_records_of pool pages) t → IsFor pool pages (n - 1) t
last_for pool pages n t paged counted before =
    let within : n - 1 < length pages = omega (arith, paged.some) in
    let front = page_records_of pool (take (n - 1) pages) in
    let rest = page_in pool (get_or pages (n - 1) no_page) ++ page_records_of pool (drop (n - 1 + 1) pages) in
    record {
      within = within;
      before = all_left (λ r. time r < t) front rest
          (subst (λ l. AllBefore l t) (records-around pool pages (n - 1) no_page within) before);
      after = rw (drop_all (n - 1 + 1) pages (omega arith)) (All-nil (λ r. t < time r));
    }

-- no page is after it
pub none_moved : (by : ℕ) (S : List Page) (k : ℕ) → length S ≤ k + 1 → S ≡ take (k + 1) S ++ map (moved by) (drop (k + 1) S)
none_moved by S k last =
    rw (take_all (k + 1) S last, drop_all (k + 1) S last) (sym (append-nil S))

-- the pages after a record was put into the page at k: its start and summary are written, and the others are
-- moved on
pub record IsShelved (pages M S : List Page) (k by : ℕ) (q : Page) (g : Frame) (s : Summary) : Type 0 where
  pub again : q ≡ get_or pages k q
  pub wrote : S ≡ set pages k (record { id = q.id; first = q.first; start = get_or g.times 0 0; summary = s })
  pub moves : M ≡ take (k + 1) S ++ map (moved by) (drop (k + 1) S)

module _ (pool : List (Option Frame)) (pages M S : List Page) (k by : ℕ) (p q : Page) (f g : Frame)
    (r : Rec) (s : Summary) (summary : s ≡ summary_of (points_of (frame_records_in g)))
    (is : IsPageRead pool pages k p f) (found : IsFor pool pages k (time r)) (page : IsPage g)
    (records : frame_records_in g ≡ placed r (frame_records_in f)) (grown : g.len ≡ f.len + by)
    (shelved : IsShelved pages M S k by q g s) where
  same_page : q ≡ p
  same_page = shelved.again ∙ (get_or_default pages k q p is.within ∙ sym is.read)

  around : pages ≡ take k pages ++ p ∷ drop (k + 1) pages
  around = pages_around pages k p is.within ∙ ap (λ x. take k pages ++ x ∷ drop (k + 1) pages) (sym is.read)

  as_pages : ArePages pool (take k pages ++ p ∷ drop (k + 1) pages)
  as_pages = subst (ArePages pool) around is.paged

  held : page_in pool p ≡ frame_records_in f
  held = ap records_at is.there

  in_page : frame_records_in g ≡ placed r (page_in pool p)
  in_page = records ∙ ap (placed r) (sym held)

  in_len : length (frame_records_in g) ≡ length (page_in pool p) + by
  in_len = omega (arith, length-records_in g, length-records_in f, ap length held)

  -- the pages as the code leaves them
  final : M ≡ take k pages ++ record
      { id = p.id; first = p.first; start = get_or g.times 0 0; summary = s } ∷ map (moved by)
      (drop (k + 1) pages)
  final =
      let now : Page = record { id = q.id; first = q.first; start = get_or g.times 0 0; summary = s } in
      let front : take (k + 1) S ≡ take k pages ++ now ∷ [] = ap (take (k + 1)) shelved.wrote
      ∙ take_more_set pages k now is.within in
      let back : drop (k + 1) S ≡ drop (k + 1) pages = ap (drop (k + 1)) shelved.wrote
      ∙ drop-set-lt (k + 1) pages k now (omega arith) in
      let whole : M ≡ take k pages ++ now ∷ map (moved by) (drop (k + 1) pages) =
      shelved.moves ∙ (ap₂ (λ xs ys. xs ++ map (moved by) ys) front back
      ∙ append_assoc (take k pages) (now ∷ []) (map (moved by) (drop (k + 1) pages))) in
      whole ∙ ap (λ (x : Page). take k pages ++ record
      { id = x.id; first = x.first; start = get_or g.times 0 0; summary = s } ∷ map (moved by)
      (drop (k + 1) pages)) same_page

  pub pages_shelved : ArePages (set pool p.id (Some g)) (M)
  pages_shelved =
      subst (ArePages (set pool p.id (Some g))) (sym final)
      (pages_put pool (take k pages) (drop (k + 1) pages) p g r by s summary as_pages page in_page in_len
      found.before found.after)

  pub records-shelved : page_records_of (set pool p.id (Some g)) (M) ≡ placed r
      (page_records_of pool pages)
  records-shelved =
      ap (page_records_of (set pool p.id (Some g))) final
      ∙ (records-put pool (take k pages) (drop (k + 1) pages) p g r by s summary as_pages page in_page in_len
      found.before found.after
      ∙ ap (λ ps. placed r (page_records_of pool ps)) (sym around))

  pub len-shelved : length (page_records_of (set pool p.id (Some g)) (M)) ≡ length
      (page_records_of pool pages) + by
  len-shelved =
      let A = page_records_of pool (take k pages) in
      let B = page_records_of pool (drop (k + 1) pages) in
      let was : page_records_of pool pages ≡ A ++ (page_in pool p ++ B) =
      records-around pool pages k p is.within ∙ ap (λ x. A ++ (page_in pool x ++ B)) (sym is.read) in
      let now : placed r (page_records_of pool pages) ≡ A ++ (frame_records_in g ++ B) =
      ap (placed r) was ∙ (placed_middle r A (page_in pool p) B found.before found.after
      ∙ ap (λ l. A ++ (l ++ B)) (sym in_page)) in
      let new_len : length (A ++ (frame_records_in g ++ B)) ≡ length A + (length (frame_records_in g) + length B) =
      length-append A (frame_records_in g ++ B) ∙ ap (λ n. length A + n) (length-append (frame_records_in g) B) in
      let old_len : length (A ++ (page_in pool p ++ B)) ≡ length A + (length (page_in pool p) + length B) =
      length-append A (page_in pool p ++ B) ∙ ap (λ n. length A + n) (length-append (page_in pool p) B) in
      let whole = ap length records-shelved in
      let grows = in_len in
      omega (arith, ap length was, ap length now)

  -- and its page has grown
  pub grown-shelved : f.len < 128
      → IsGrown (lengths_of pool pages) (place_in (page_records_of pool pages) (time r)) by
      (lengths_of (set pool p.id (Some g)) M)
  grown-shelved short =
      let long : length (page_in pool p) ≡ f.len = ap length held ∙ length-records_in f in
      let here : length (page_in pool (get_or pages k p)) ≡ length (page_in pool p) =
      ap (λ x. length (page_in pool x)) (sym is.read) in
      let upto = place_upto pool pages k (time r) p found in
      record {
        front = lengths_of pool (take k pages);
        here = length (page_in pool p);
        back = lengths_of pool (drop (k + 1) pages);
        was = lengths-around pool pages k p is.within
            ∙ ap (λ m. lengths_of pool (take k pages) ++ m ∷ lengths_of pool (drop (k + 1) pages)) here;
        now = ap (lengths_of (set pool p.id (Some g))) final
            ∙ lengths-put pool (take k pages) (drop (k + 1) pages) p g r by s summary as_pages page in_page in_len
            found.before found.after;
        room = omega (arith, long);
        from = place_from pool pages k (time r) p found;
        upto = omega (arith, here);
      }

-- ---- places that fit

-- no page begins after the end
first_fits : (pool : List (Option Frame)) (place : ℕ) (pages : List Page) → ArePagesFrom pool place pages
    → All (λ p. p.first ≤ place + length (page_records_of pool pages)) pages
first_fits pool place [] each = All-nil (λ p. p.first ≤ place + 0)
first_fits pool place (p ∷ ps) each =
    let here = each.0.first in
    let long = length-append (page_in pool p) (page_records_of pool ps) in
    All-cons (λ q. q.first ≤ place + length (page_records_of pool (p ∷ ps))) p ps (omega arith)
    (λ k d inside. let rest = first_fits pool (place + length (page_in pool p)) ps each.1 k d inside in omega
    arith)

-- nor does one whose start is written
pub small_places : (pool : List (Option Frame)) (pages S : List Page) (k by : ℕ) (q : Page) (s : ℕ) (z : Summary)
    → ArePages pool pages → k < length pages
    → q ≡ get_or pages k q → S ≡ set pages k (record { id = q.id; first = q.first; start = s; summary = z })
    → length (page_records_of pool pages) + 1 < 2 ^ 32 → by ≤ 1
    → All (λ p. p.first + by < 2 ^ 32) S
small_places pool pages S k by q s z paged within again wrote few one =
    let firsts = first_fits pool 0 pages paged.each in
    let Small : Page → Type 0 = λ p. p.first + by < 2 ^ 32 in
    let all : All Small pages = λ i d inside. let first = firsts i d inside in omega arith in
    let here : q.first + by < 2 ^ 32 = subst Small (sym again) (all k q within) in
    subst (All Small) (sym wrote) (All-set Small pages k
    (record { id = q.id; first = q.first; start = s; summary = z }) here all)

-- ---- a page that was split

-- the page k was cut into two halves
pub record IsCut (pool_old pool : List (Option Frame)) (old now : List Page) (k : ℕ) : Type 0 where
  pub pages : ArePages pool now
  pub records : page_records_of pool now ≡ page_records_of pool_old old
  pub lengths : lengths_of pool now ≡ lengths_of pool_old (take k old) ++ 64 ∷ 64 ∷ lengths_of pool_old (drop (k + 1) old)
  pub lower : (d : Page) → length (page_in pool (get_or now k d)) ≡ 64
  pub upper : (d : Page) → length (page_in pool (get_or now (k + 1) d)) ≡ 64

-- what a split leaves: the lower half, a frame that was taken for the upper half, and the upper half there
module _ (pool taken : List (Option Frame)) (pages : List Page) (k id : ℕ) (p q : Page) (f lo hi : Frame)
    (s t : Summary)
    (lower_summary : s ≡ summary_of (points_of (frame_records_in lo)))
    (upper_summary : t ≡ summary_of (points_of (frame_records_in hi))) (is : IsPageRead pool pages k p f)
    (full : f.len ≡ 128) (lower : IsPage lo) (upper : IsPage hi)
    (low : frame_records_in lo ≡ take 64 (frame_records_in f))
    (high : frame_records_in hi ≡ drop 64 (frame_records_in f)) (takes : TakesFrame (set pool p.id (Some lo)) id taken)
    (again : q ≡ get_or pages k q) where
  split_around : pages ≡ take k pages ++ p ∷ drop (k + 1) pages
  split_around = pages_around pages k p is.within ∙ ap (λ x. take k pages ++ x ∷ drop (k + 1) pages)
      (sym is.read)

  split_paged : ArePages pool (take k pages ++ p ∷ drop (k + 1) pages)
  split_paged = subst (ArePages pool) split_around is.paged

  split_held : page_in pool p ≡ frame_records_in f
  split_held = ap records_at is.there

  split_full : length (page_in pool p) ≡ 128
  split_full = omega (arith, ap length split_held, length-records_in f)

  -- the new page
  abbrev pub new_page : Page
  new_page = record { id = id; first = q.first + 64; start = get_or hi.times 0 0; summary = t }

  -- the page that was split, with the summary of its lower half
  abbrev pub old_page : Page
  old_page = record { id = q.id; first = q.first; start = q.start; summary = s }

  split_same : q ≡ p
  split_same = again ∙ (get_or_default pages k q p is.within ∙ sym is.read)

  -- the pages after the split
  abbrev pub split_list : List Page
  split_list = insert (set pages k old_page) (k + 1) new_page

  split_is : split_list ≡ take k pages ++ record { id = p.id; first = p.first; start = p.start; summary = s }
      ∷ record { id = id; first = p.first + 64; start = get_or hi.times 0 0; summary = t } ∷ drop (k + 1) pages
  split_is =
      ap₂ (λ xs ys. xs ++ new_page ∷ ys) (take_more_set pages k old_page is.within)
      (drop-set-lt (k + 1) pages k old_page (omega arith))
      ∙ (append_assoc (take k pages) (old_page ∷ []) (new_page ∷ drop (k + 1) pages)
      ∙ ap (λ (x : Page). take k pages ++ record { id = x.id; first = x.first; start = x.start; summary = s }
      ∷ record { id = id; first = x.first + 64; start = get_or hi.times 0 0; summary = t } ∷ drop (k + 1) pages)
      split_same)

  split_pool_is : set taken id (Some hi) ≡ set (set (set pool p.id (Some lo)) id (Some empty_frame)) id
      (Some hi)
  split_pool_is = ap (λ ps. set ps id (Some hi)) takes.now_empty

  low_part : frame_records_in lo ≡ take 64 (page_in pool p)
  low_part = low ∙ ap (take 64) (sym split_held)

  high_part : frame_records_in hi ≡ drop 64 (page_in pool p)
  high_part = high ∙ ap (drop 64) (sym split_held)

  pages_cut : ArePages (set taken id (Some hi)) split_list
  pages_cut =
      subst (λ ps. ArePages ps split_list) (sym split_pool_is)
      (subst (ArePages (set (set (set pool p.id (Some lo)) id (Some empty_frame)) id (Some hi)))
      (sym split_is)
      (pages_in_halves pool (take k pages) (drop (k + 1) pages) p lo hi empty_frame id s t lower_summary
      upper_summary split_paged lower upper low_part high_part split_full takes.within takes.was_spare))

  records-cut : page_records_of (set taken id (Some hi)) split_list ≡ page_records_of pool pages
  records-cut =
      ap₂ page_records_of split_pool_is split_is
      ∙ (records-split pool (take k pages) (drop (k + 1) pages) p lo hi empty_frame id s t lower_summary
      upper_summary split_paged lower upper low_part high_part split_full takes.within takes.was_spare
      ∙ ap (page_records_of pool) (sym split_around))

  lengths-cut : lengths_of (set taken id (Some hi)) split_list ≡ lengths_of pool (take k pages) ++ 64 ∷ 64
      ∷ lengths_of pool (drop (k + 1) pages)
  lengths-cut =
      ap₂ lengths_of split_pool_is split_is
      ∙ lengths-split pool (take k pages) (drop (k + 1) pages) p lo hi empty_frame id s t lower_summary
      upper_summary split_paged lower upper low_part high_part split_full takes.within takes.was_spare

  -- how many records the halves have
  lower_len : (d : Page) → length (page_in (set taken id (Some hi)) (get_or split_list k d)) ≡ 64
  lower_len d =
      let here : get_or split_list k d ≡ record { id = p.id; first = p.first; start = p.start; summary = s } =
      ap (λ ps. get_or ps k d) split_is ∙ get_or_at (take k pages) _ _ d k
      (length-take-le k pages (omega (arith, is.within))) in
      ap₂ (λ ps x. length (page_in ps x)) split_pool_is here
      ∙ low_len pool (take k pages) (drop (k + 1) pages) p lo hi empty_frame id s t lower_summary upper_summary
      split_paged lower upper low_part high_part split_full takes.within takes.was_spare

  upper_len : (d : Page) → length (page_in (set taken id (Some hi)) (get_or split_list (k + 1) d)) ≡ 64
  upper_len d =
      let here : get_or split_list (k + 1) d ≡ new_page =
      get_or-insert_at (set pages k old_page) (k + 1) new_page d
      (omega (arith, is.within, length-set pages k old_page)) in
      ap₂ (λ ps x. length (page_in ps x)) split_pool_is here
      ∙ high_len pool (take k pages) (drop (k + 1) pages) p lo hi empty_frame id s t lower_summary upper_summary
      split_paged lower upper low_part high_part split_full takes.within takes.was_spare

  -- all that a split says
  pub cut_in_two : IsCut pool (set taken id (Some hi)) pages split_list k
  cut_in_two = record {
    pages = pages_cut;
    records = records-cut;
    lengths = lengths-cut;
    lower = lower_len;
    upper = upper_len;
  }

-- the frame of a full page is full
pub full_frame : (pool : List (Option Frame)) (pages : List Page) (k : ℕ) (p : Page) (f : Frame)
    → IsPageRead pool pages k p f
    → length (page_in pool (get_or pages k p)) ≡ 128 → f.len ≡ 128
full_frame pool pages k p f is full =
    let same = ap (λ x. length (page_in pool x)) is.read in
    let there = ap (λ o. length (records_at o)) is.there in
    omega (arith, length-records_in f)

-- a page's place and half a page fit
pub first_small : (pool : List (Option Frame)) (pages : List Page) (k : ℕ) (p q : Page) (f : Frame)
    → IsPageRead pool pages k p f → f.len ≡ 128
    → q ≡ get_or pages k q → length (page_records_of pool pages) < 2 ^ 32 → q.first + 64 < 2 ^ 32
first_small pool pages k p q f is full again few =
    let same : q ≡ p = again ∙ (get_or_default pages k q p is.within ∙ sym is.read) in
    let first = ap (λ (x : Page). x.first) same in
    let upto = end_within pool pages k p f is in
    omega arith

-- ---- the page for a time, of two halves

module _ (pool : List (Option Frame)) (now old : List Page) (k t : ℕ) (e : Page) (paged : ArePages pool now)
    (split : IsSplit old now k)
    (within_old : k < length old) (last_old : IsLastUpto Time old k t) where
  -- the pages with the lower half, and the upper half's page
  abbrev pages : List Page
  pages = set old k split.lower

  abbrev q : Page
  q = split.upper

  within : k < length pages
  within = omega (arith, within_old, length-set old k split.lower)

  -- they start where they did
  same_start : (j : ℕ) (d : Page) → (get_or pages j d).start ≡ (get_or old j d).start
  same_start j d = elim (cases_eq j k) [
    | inl same ↦
        rw same (ap (λ (x : Page). x.start) (get_or-set_same old k split.lower d within_old)
        ∙ (split.start ∙ ap (λ (x : Page). x.start) (get_or_default old k split.lower d within_old)))
    | inr other ↦ ap (λ (x : Page). x.start) (get_or-set_other old k j split.lower d other)
  ]

  early : (j : ℕ) (d : Page) → 0 < j → j ≤ k → (get_or pages j d).start ≤ t
  early j d some upto = rw (same_start j d) (last_old.before j d some upto)

  late : (j : ℕ) (d : Page) → k < j → j < length pages → t < (get_or pages j d).start
  late j d past inside = rw (same_start j d) (last_old.after j d past (omega (arith, length-set old k split.lower)))

  now_len : length now ≡ length pages + 1
  now_len = ap length split.list ∙ length-insert pages (k + 1) q (omega (arith, within))

  -- the pages up to the lower half are as they were
  kept_early : (j : ℕ) (d : Page) → 0 < j → j ≤ k → (get_or now j d).start ≤ t
  kept_early j d some upto =
      let here : get_or now j d ≡ get_or pages j d =
      ap (λ ps. get_or ps j d) split.list ∙ get_or-insert_below pages (k + 1) q d j (omega arith)
      (omega (arith, within)) in
      subst (λ (x : Page). x.start ≤ t) (sym here) (early j d some upto)

  -- and those after the upper half have moved up by one
  kept_late : (j : ℕ) (d : Page) → k + 1 < j → j < length now → t < (get_or now j d).start
  kept_late zero d past inside = absurd (omega arith)
  kept_late (suc j) d past inside =
      let here : get_or now (j + 1) d ≡ get_or pages j d =
      ap (λ ps. get_or ps (j + 1) d) split.list ∙ get_or-insert_above pages (k + 1) q d j (omega arith)
      (omega (arith, within)) in
      let long = now_len in
      subst (λ n. t < (get_or now n d).start) (add-one j)
      (subst (λ (x : Page). t < x.start) (sym here) (late j d (omega arith) (omega arith)))

  upper_found : (get_or now (k + 1) e).start ≤ t → IsFor pool now (k + 1) t
  upper_found starts =
      let long = now_len in
      found_for pool now (k + 1) t paged (omega (arith, within)) (record {
        before = λ j d some upto. elim (cases_lt j (k + 1)) [
          | inl less ↦ kept_early j d some (omega arith)
          | inr not_less ↦
              let same : j ≡ k + 1 = omega arith in
              rw same (subst (λ (x : Page). x.start ≤ t)
              (get_or_default now (k + 1) e d (omega (arith, within))) starts)
        ];
        after = kept_late;
      })

  lower_found : t < (get_or now (k + 1) e).start → IsFor pool now k t
  lower_found starts =
      let long = now_len in
      found_for pool now k t paged (omega (arith, within)) (record {
        before = kept_early;
        after = λ j d past inside. elim (cases_lt (k + 1) j) [
          | inl more ↦ kept_late j d more inside
          | inr not_more ↦
              let same : j ≡ k + 1 = omega arith in
              rw same (subst (λ (x : Page). t < x.start)
              (get_or_default now (k + 1) e d (omega (arith, within))) starts)
        ];
      })

  pub half_found : (j : ℕ) → IsHalfFor now k t j → IsFor pool now j t
  half_found j half = elim (half e) [
    | inl upper ↦ rw upper.0 (upper_found upper.1)
    | inr lower ↦ rw lower.0 (lower_found lower.1)
  ]

-- the upper half is one of the pages
pub within_split : (now old : List Page) (k : ℕ) → IsSplit old now k → k < length old → k + 1 < length now
within_split now old k split within =
    let long = length-set old k split.lower in
    omega (arith, ap length split.list, length-insert (set old k split.lower) (k + 1) split.upper (omega arith))
