-- What is read of the records of pages.
use Rattle.std.proofs.Common.{◌≡◌, ℕ, ◌+◌, ◌-◌, ◌<◌, ◌≤◌, ◌⊎◌, inl, inr, true, cond, List, [], ◌∷◌, ◌++◌, length, get_or, take, drop, Option, Some, All, nat_lt, count_by, refl, sym, ap, ap₂, ◌∙◌, subst, arith, append-nil, length-append}
use Rattle.std.proofs.lemmas.List.{get_or_append_left, get_or-append-add, get_or-take, get_or-drop, get_or_default, take_at, drop_at, take_more, drop_all, length-map, length-take-le, length-drop, map-append}
use Rattle.std.proofs.lemmas.List.Sums.{sum_by-cons, sum_by-take-drop}
use Rattle.std.proofs.lemmas.List.Elements.{All-head, All-tail}
use Rattle.std.specs.Prelude.{is_some}
use Rattle.std.proofs.lemmas.Bool.{cases_lt, cases_eq, lt-ltb, le-ltb}
use Rattle.trend_num.specs.{Rec}
use Rattle.page_pool.specs.{Frame, IsHeld, frame_at}
use Rattle.late_insert.specs.declared.directory.Key.TheVariants.{Place}
use Rattle.late_insert.specs.{Page, IsLastUpto, Summary, summary_of, rec_in, frame_records_in, records_at, page_in, page_records_of, IsPage, IsPageAt, ArePages, IsPageRead, IsFor, IsOn}
use Rattle.trend_model.specs.{IsRising, points_of, area}
use Rattle.trend_model.proofs.Placing.{time, AllBefore, rising_left, rising_right}
use Rattle.late_insert.proofs.Summing.{length-records_in, get_or-records_in}
use Rattle.late_insert.proofs.Joining.{records-around, records-append, page_at}
use Rattle.late_insert.proofs.Finding.{no_page, no_rec}

-- all records up to a place are before the time t, and none from it on is
pub record IsGap (records : List Rec) (t place : ℕ) : Type 0 where
  pub bound : place ≤ length records
  pub before : All (λ r. time r < t) (take place records)
  pub after : All (λ r. t ≤ time r) (drop place records)

-- ---- a page among the others

-- it is read so by its place
pub is_read : (pool : List (Option Frame)) (pages : List Page) (k : ℕ) (p : Page) (f : Frame)
    → ArePages pool pages → k < length pages
    → p ≡ get_or pages k p → frame_at pool p.id ≡ Some f → IsPageRead pool pages k p f
is_read pool pages k p f paged within read there =
    record { paged = paged; within = within; read = read; there = there }

-- or by the id of its frame
pub read_by : (pool : List (Option Frame)) (pages : List Page) (k id : ℕ) (f : Frame) → ArePages pool pages
    → k < length pages → (get_or pages k no_page).id ≡ id → frame_at pool id ≡ Some f
    → IsPageRead pool pages k (get_or pages k no_page) f
read_by pool pages k id f paged within same there =
    is_read pool pages k (get_or pages k no_page) f paged within
    (get_or_default pages k no_page (get_or pages k no_page) within) (ap (frame_at pool) same ∙ there)

-- the last page is read, where they were counted
pub read_last : (pool : List (Option Frame)) (pages : List Page) (n : ℕ) (f : Frame) → n ≡ length pages
    → IsPageRead pool pages (n - 1) (get_or pages (n - 1) no_page) f
    → IsPageRead pool pages (length pages - 1) (get_or pages (length pages - 1) no_page) f
read_last pool pages n f counted is = subst (λ m. IsPageRead pool pages (m - 1) (get_or pages (m - 1) no_page) f) counted is

-- its frame is there
pub held_by : (pool : List (Option Frame)) (pages : List Page) (k id : ℕ) → ArePages pool pages
    → k < length pages → (get_or pages k no_page).id ≡ id → IsHeld pool id
held_by pool pages k id paged within same =
    subst (IsHeld pool) same (ap is_some (page_at pool pages k no_page within paged.each).there)

-- each page is read
pub each_read : (pool : List (Option Frame)) (pages : List Page) (k : ℕ) (d : Page)
    (paged : ArePages pool pages) (within : k < length pages)
    → IsPageRead pool pages k (get_or pages k d) (page_at pool pages k d within paged.each).frame
each_read pool pages k d paged within =
    is_read pool pages k (get_or pages k d) _ paged within
    (get_or_default pages k d (get_or pages k d) within)
    (page_at pool pages k d within paged.each).there

-- how many records the page that is read has
pub page_len : (pool : List (Option Frame)) (pages : List Page) (k : ℕ) (p : Page) (f : Frame)
    → IsPageRead pool pages k p f → (d : Page)
    → length (page_in pool (get_or pages k d)) ≡ f.len
page_len pool pages k p f is d =
    ap (λ x. length (page_in pool x)) (get_or_default pages k d p is.within ∙ sym is.read)
    ∙ (ap (λ o. length (records_at o)) is.there ∙ length-records_in f)

module _ (pool : List (Option Frame)) (pages : List Page) (k : ℕ) (p : Page) (f : Frame)
    (is : IsPageRead pool pages k p f) where
  abbrev front : List Rec
  front = page_records_of pool (take k pages)

  abbrev behind : List Rec
  behind = page_records_of pool (drop (k + 1) pages)

  pub at_place : IsPageAt pool (length front) p
  at_place = subst (IsPageAt pool (length front)) (sym is.read)
      (page_at pool pages k p is.within is.paged.each)

  same_frame : at_place.frame ≡ f
  same_frame = let one : Some at_place.frame ≡ Some f = sym at_place.there ∙ is.there in cc

  pub frame_page : IsPage f
  frame_page = subst IsPage same_frame at_place.page

  -- its summary
  pub page_summary : p.summary ≡ summary_of (points_of (frame_records_in f))
  page_summary = at_place.summary ∙ ap (λ g. summary_of (points_of (frame_records_in g))) same_frame

  pub page_stair : p.summary.stair ≡ area true (points_of (frame_records_in f))
  page_stair = ap (λ (s : Summary). s.stair) page_summary

  parts : page_records_of pool pages ≡ front ++ (frame_records_in f ++ behind)
  parts =
      records-around pool pages k p is.within
      ∙ ap (λ l. front ++ (l ++ behind)) (ap (page_in pool) (sym is.read) ∙ ap records_at is.there)

  pub frame_rises : IsRising (frame_records_in f)
  frame_rises = rising_left (frame_records_in f) behind
      (rising_right front (frame_records_in f ++ behind) (subst IsRising parts is.paged.rising))

  -- a record of the page, and one after it
  pub on_page : (j : ℕ) (d : Rec) → j < f.len → get_or (page_records_of pool pages) (p.first + j) d ≡ rec_in f j
  on_page j d inside =
      ap (λ n. get_or (page_records_of pool pages) (n + j) d) at_place.first
      ∙ (ap (λ l. get_or l (length front + j) d) parts
      ∙ (get_or-append-add front (frame_records_in f ++ behind) j d
      ∙ (get_or_append_left (frame_records_in f) behind d j (omega (arith, length-records_in f))
      ∙ get_or-records_in f j d inside)))

  pub long : length (page_records_of pool pages) ≡ p.first + (f.len + length behind)
  long = omega (
    arith,
    ap length parts,
    length-append front (frame_records_in f ++ behind),
    length-append
        (frame_records_in f) behind,
    length-records_in f,
    at_place.first,
  )

  -- the page ends within the records
  pub end_within : p.first + f.len ≤ length (page_records_of pool pages)
  end_within = omega (arith, long)

  pub read_on : (i : ℕ) (d : Rec) → p.first ≤ i → i < p.first + f.len
      → get_or (page_records_of pool pages) i d ≡ rec_in f (i - p.first)
  read_on i d from upto =
      let place : p.first + (i - p.first) ≡ i = omega arith in
      ap (λ n. get_or (page_records_of pool pages) n d) (sym place) ∙ on_page (i - p.first) d (omega arith)

  -- the records up to the end of the page
  pub records_upto : page_records_of pool (take (k + 1) pages) ≡ front ++ frame_records_in f
  records_upto =
      ap (page_records_of pool) (take_more pages k p is.within)
      ∙ (records-append pool (take k pages) (get_or pages k p ∷ [])
      ∙ ap (λ l. front ++ l) (append-nil (page_in pool (get_or pages k p))
      ∙ (ap (page_in pool) (sym is.read) ∙ ap records_at is.there)))

  -- a place on the page
  pub place_on : (i : ℕ) → IsOn pool pages k i → (p.first ≤ i) × (i < p.first + f.len)
  place_on i on =
      let start = at_place.first in (
        omega (arith, on.from),
        omega (
          arith,
          on.upto,
          ap length records_upto,
          length-append front
              (frame_records_in f),
          length-records_in f,
        ),
      )

  pub is_on : (i : ℕ) → p.first ≤ i → i < p.first + f.len → IsOn pool pages k i
  is_on i from upto =
      let start = at_place.first in
      record {
        within = is.within;
        from = omega arith;
        upto = omega (arith, ap length records_upto, length-append front (frame_records_in f), length-records_in f);
      }

  -- where the page is the last one, and its last record is before t, all are
  pub last_before : (t i : ℕ) → k + 1 ≡ length pages → i + 1 ≡ f.len → get_or f.times i 0 < t
      → AllBefore (page_records_of pool pages) t
  last_before t i last end early j d inside =
      let none : length behind ≡ 0 = ap (λ ps. length (page_records_of pool ps))
      (drop_all (k + 1) pages (omega arith)) in
      let there : time (get_or (page_records_of pool pages) (p.first + i) d) ≡ get_or f.times i 0 = ap time
      (on_page i d (omega arith)) in
      elim (cases_eq j (p.first + i)) [
        | inl same ↦ rw same (omega arith)
        | inr other ↦
            let rise = is.paged.rising j (p.first + i) d (omega (arith, long)) (omega (arith, long)) in
            omega arith
      ]

  -- where all are before t, so is the one at a place of the page
  pub before_on : (t i : ℕ) → i < f.len → AllBefore (page_records_of pool pages) t → get_or f.times i 0 < t
  before_on t i inside before =
      let there : time (get_or (page_records_of pool pages) (p.first + i) no_rec) ≡ get_or f.times i 0 = ap time
      (on_page i no_rec inside) in
      let early = before (p.first + i) no_rec (omega (arith, long)) in
      omega arith

  -- ---- the gap for a time

  module _ (t i : ℕ) (found : IsFor pool pages k t) (upto : i ≤ f.len)
      (less : (j : ℕ) → j < i → get_or f.times j 0 < t)
      (more : (j : ℕ) → i ≤ j → j < f.len → t ≤ get_or f.times j 0) where
    gap_within : p.first + i ≤ length (page_records_of pool pages)
    gap_within = omega (arith, long)

    gap_before : All (λ r. time r < t) (take (p.first + i) (page_records_of pool pages))
    gap_before j d inside =
        let reach : j < p.first + i = omega
        (arith, length-take-le (p.first + i) (page_records_of pool pages) gap_within) in
        subst (λ r. time r < t) (sym (get_or-take (p.first + i) (page_records_of pool pages) j d reach))
        (by_place (cases_lt j (length front)))
      where
        by_place : (j < length front) ⊎ (length front ≤ j) → time (get_or (page_records_of pool pages) j d) < t
        by_place (inl left) =
            let here : get_or (page_records_of pool pages) j d ≡ get_or front j d =
            ap (λ l. get_or l j d) parts ∙ get_or_append_left front (frame_records_in f ++ behind) d j left in
            subst (λ r. time r < t) (sym here) (found.before j d left)
        by_place (inr right) =
            let reach : j < p.first + i = omega
            (arith, length-take-le (p.first + i) (page_records_of pool pages) gap_within) in
            let start = at_place.first in
            let place : p.first + (j - p.first) ≡ j = omega arith in
            let here : get_or (page_records_of pool pages) j d ≡ rec_in f (j - p.first) =
            ap (λ n. get_or (page_records_of pool pages) n d) (sym place)
            ∙ on_page (j - p.first) d (omega arith) in
            subst (λ r. time r < t) (sym here) (less (j - p.first) (omega arith))

    gap_after : All (λ r. t ≤ time r) (drop (p.first + i) (page_records_of pool pages))
    gap_after j d inside =
        subst (λ r. t ≤ time r) (sym (get_or-drop (p.first + i) (page_records_of pool pages) j d))
        (by_place (cases_lt (i + j) f.len))
      where
        by_place : (i + j < f.len) ⊎ (f.len ≤ i + j)
            → t ≤ time (get_or (page_records_of pool pages) (p.first + i + j) d)
        by_place (inl on) =
            let place : p.first + (i + j) ≡ p.first + i + j = omega arith in
            let here : get_or (page_records_of pool pages) (p.first + i + j) d ≡ rec_in f (i + j) =
            ap (λ n. get_or (page_records_of pool pages) n d) (sym place) ∙ on_page (i + j) d on in
            subst (λ r. t ≤ time r) (sym here) (more (i + j) (omega arith) on)
        by_place (inr past) =
            let start = at_place.first in
            let reach : i + j - f.len < length behind =
            omega (arith, long, length-drop (p.first + i) (page_records_of pool pages)) in
            let place : length front + (length (frame_records_in f) + (i + j - f.len)) ≡ p.first + i + j = omega
            (arith, length-records_in f) in
            let here : get_or (page_records_of pool pages) (p.first + i + j) d ≡ get_or behind (i + j - f.len) d =
            ap (λ n. get_or (page_records_of pool pages) n d) (sym place)
            ∙ (ap (λ l. get_or l (length front + (length (frame_records_in f) + (i + j - f.len))) d) parts
            ∙ (get_or-append-add front (frame_records_in f ++ behind) (length (frame_records_in f) + (i + j - f.len)) d
            ∙ get_or-append-add (frame_records_in f) behind (i + j - f.len) d)) in
            let later = found.after (i + j - f.len) d reach in
            subst (λ r. t ≤ time r) (sym here) (omega arith)

    pub gap_on : IsGap (page_records_of pool pages) t (p.first + i)
    gap_on = record { bound = gap_within; before = gap_before; after = gap_after }

  -- ---- the page of a place

  module _ (i : ℕ) (inside : i < length (page_records_of pool pages))
      (last : IsLastUpto Place pages k i) where
    pub page_from : p.first ≤ i
    page_from = elim (cases_lt 0 k) [
      | inl some ↦ subst (λ (q : Page). q.first ≤ i) (sym is.read) (last.before k p some (omega arith))
      | inr none ↦
          let zero_k : k ≡ 0 = omega arith in
          let empty : length front ≡ 0 = ap (λ n. length (page_records_of pool (take n pages))) zero_k in
          omega (arith, at_place.first)
    ]

    pub page_upto : i < p.first + f.len
    page_upto = elim (cases_lt (k + 1) (length pages)) [
      | inl more ↦
          let next = (page_at pool pages (k + 1) no_page more is.paged.each).first in
          let bound = last.after (k + 1) no_page (omega arith) more in
          omega (
            arith,
            at_place.first,
            ap length records_upto,
            length-append front (frame_records_in f),
            length-records_in f,
          )
      | inr end ↦
          let none : length behind ≡ 0 = ap (λ ps. length (page_records_of pool ps))
          (drop_all (k + 1) pages end) in
          omega (arith, long)
    ]

    pub read_at : (d : Rec) → get_or (page_records_of pool pages) i d ≡ rec_in f (i - p.first)
    read_at d = read_on i d page_from page_upto

    -- the points on the page are those of its frame
    pub points_read : take (p.first + f.len - p.first) (drop p.first (points_of (page_records_of pool pages))) ≡
        points_of (frame_records_in f)
    points_read =
        let all : points_of (page_records_of pool pages) ≡ points_of front ++
        (points_of (frame_records_in f) ++ points_of behind) =
        ap points_of parts ∙ (map-append (λ (r : Rec). r.point) front (frame_records_in f ++ behind)
        ∙ ap (λ l. points_of front ++ l) (map-append (λ (r : Rec). r.point) (frame_records_in f) behind)) in
        let start : length (points_of front) ≡ p.first = length-map front (λ r. r.point)
        ∙ sym at_place.first in
        let many : length (points_of (frame_records_in f)) ≡ p.first + f.len - p.first =
        length-map (frame_records_in f) (λ r. r.point) ∙ (length-records_in f ∙ omega arith) in
        ap (λ l. take (p.first + f.len - p.first) (drop p.first l)) all
        ∙ (ap (take (p.first + f.len - p.first))
        (drop_at (points_of front) (points_of (frame_records_in f) ++ points_of behind) p.first start)
        ∙ take_at (points_of (frame_records_in f)) (points_of behind) (p.first + f.len - p.first) many)

-- ---- how many records are before a time

pub count_all : (t : ℕ) (l : List Rec) → All (λ r. time r < t) l → count_by (λ r. nat_lt (time r) t) l ≡ length l
count_all t [] all = refl
count_all t (x ∷ xs) all =
    let here = All-head (λ r. time r < t) x xs all in
    sum_by-cons (λ r. cond (nat_lt (time r) t) 1 0) x xs
    ∙ (ap₂ (λ b n. cond b 1 0 + n) (lt-ltb (time x) t here)
    (count_all t xs (All-tail (λ r. time r < t) x xs all)) ∙ omega arith)

pub count_none : (t : ℕ) (l : List Rec) → All (λ r. t ≤ time r) l → count_by (λ r. nat_lt (time r) t) l ≡ 0
count_none t [] all = refl
count_none t (x ∷ xs) all =
    let here = All-head (λ r. t ≤ time r) x xs all in
    sum_by-cons (λ r. cond (nat_lt (time r) t) 1 0) x xs
    ∙ (ap₂ (λ b n. cond b 1 0 + n) (le-ltb (time x) t here)
    (count_none t xs (All-tail (λ r. t ≤ time r) x xs all)) ∙ omega arith)

pub count_gap : (t n : ℕ) (l : List Rec) → n ≤ length l → All (λ r. time r < t) (take n l)
    → All (λ r. t ≤ time r) (drop n l)
    → n ≡ count_by (λ r. nat_lt (time r) t) l
count_gap t n l within before after =
    let weight : Rec → ℕ = λ r. cond (nat_lt (time r) t) 1 0 in
    omega (
      arith,
      sum_by-take-drop weight l n,
      count_all t (take n l) before,
      count_none t (drop n l) after,
      length-take-le n l within,
    )
