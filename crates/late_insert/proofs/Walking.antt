-- A walk over the records of pages.
use Rattle.std.proofs.Common.{◌≡◌, ℕ, ◌+◌, ◌-◌, ◌^◌, ◌<◌, ◌≤◌, inl, inr, List, [], ◌∷◌, map, drop, All, subst, ◌++◌, length, get_or, take, Option, sym, ap, ◌∙◌, arith, length-append}
use Rattle.std.specs.Prelude.{min, slice_range}
use Rattle.std.proofs.lemmas.List.{same_lists, take_all, take_at, drop_at, take-append-drop, length-take, length-drop, map-append, length-map, get_or-map}
use Rattle.std.proofs.lemmas.List.Elements.{All-head, All-take, All-drop}
use Rattle.std.proofs.Math.Seq.{take-add}
use Rattle.std.proofs.lemmas.Bool.{cases_lt}
use Rattle.trend_num.specs.{Rec}
use Rattle.page_pool.specs.{Frame}
use Rattle.late_insert.specs.declared.directory.Key.TheVariants.{Place}
use Rattle.late_insert.specs.{Page, IsLastUpto, Summary, summary_of, joined_of, ArePagesFrom, rec_in, page_in, records_at, frame_records_in, page_records_of, ArePages, IsOn, IsWalk, IsRun, IsPageRead}
use Rattle.trend_model.specs.{points_of}
use Rattle.late_insert.proofs.Summing.{all_range, length-records_in, points_in, length-points_in, get_or-points_in}
use Rattle.late_insert.proofs.Joining.{page_at, pages_split, records-append}
use Rattle.late_insert.proofs.Joined.{pages_joined}
use Rattle.late_insert.proofs.Finding.{no_rec, no_page, HasSome}
use Rattle.late_insert.proofs.Ranges.{range_joined, get_or-range, length-range}
use Rattle.late_insert.proofs.Reading.{each_read, page_len, page_summary, at_place, read_on, records_upto, place_on, is_on, page_from, page_upto}

-- a walk from a place, on the page that was found for it
pub walk_first : (pool : List (Option Frame)) (pages : List Page) (k first behind : ℕ) → ArePages pool pages
    → k < length pages → first ≤ behind
    → behind ≤ length (page_records_of pool pages) → behind < 2 ^ 32
    → IsLastUpto Place pages k first
    → IsWalk pool pages k first behind
walk_first pool pages k first behind paged within order reach few last = record {
  paged = paged;
  ordered = order;
  within = reach;
  few = few;
  at = λ more.
      let is = each_read pool pages k no_page paged within in
      let inside : first < length (page_records_of pool pages) = omega arith in
      is_on _ _ _ _ _ is first (page_from _ _ _ _ _ is first inside last)
      (page_upto _ _ _ _ _ is first inside last);
}

-- the page after one begins after its last record
pub next_first : (pool : List (Option Frame)) (pages : List Page) (k : ℕ) (p : Page) (f : Frame) (d : Page)
    → IsPageRead pool pages k p f → k + 1 < length pages → (get_or pages (k + 1) d).first ≡ p.first + f.len
next_first pool pages k p f d is next =
    let at = page_at pool pages (k + 1) d next is.paged.each in
    let start = (at_place _ _ _ _ _ is).first in
    omega (
      arith,
      at.first,
      start,
      ap length (records_upto _ _ _ _ _ is),
      length-append (page_records_of pool (take k pages)) (frame_records_in f),
      length-records_in f,
    )

-- points that are all of a page have its summary
pub summary_whole : (pool : List (Option Frame)) (pages : List Page) (k start end : ℕ) (d : Page)
    → ArePages pool pages → k < length pages → start < end → end ≤ length (page_in pool (get_or pages k d))
    → end - start ≡ length (page_in pool (get_or pages k d))
    → (get_or pages k d).summary ≡ summary_of (slice_range (points_of (page_in pool (get_or pages k d))) start end)
summary_whole pool pages k start end d paged inside some within whole =
    let is = each_read pool pages k d paged inside in
    let f = (page_at pool pages k d inside paged.each).frame in
    let long = page_len _ _ _ _ _ is d in
    page_summary _ _ _ _ _ is
    ∙ (ap summary_of (sym (all_range f start end some (omega arith) (omega arith)))
    ∙ ap (λ l. summary_of (slice_range (points_of l) start end)) (sym (ap records_at is.there)))

-- a walk that has come to a place on the page k, and continues by what of the page is before the end
module _ (pool : List (Option Frame)) (pages : List Page) (k place end stop : ℕ) (p : Page) (f : Frame)
    (walk : IsWalk pool pages k place end)
    (more : place < end) (is : IsPageRead pool pages k p f) (stops : stop ≡ min f.len (end - p.first)) where
  on : (p.first ≤ place) × (place < p.first + f.len)
  on = place_on _ _ _ _ _ is place (walk.at more)

  -- the run is not empty, and ends within the page and before the end
  bounds : (place - p.first < stop) × ((stop ≤ f.len) × (p.first + stop ≤ end))
  bounds =
      let from = on.0 in
      let upto = on.1 in
      (omega arith, (omega arith, omega arith))

  -- the next page has the next place
  next_on : p.first + stop < end → IsOn pool pages (k + 1) (p.first + stop)
  next_on rest =
      let inside = walk.within in
      let whole : stop ≡ f.len = omega arith in
      let start = (at_place _ _ _ _ _ is).first in
      let there : length (page_records_of pool (take (k + 1) pages)) ≡ p.first + f.len =
      omega (
        arith,
        ap length (records_upto _ _ _ _ _ is),
        length-append (page_records_of pool (take k pages))
            (frame_records_in f),
        length-records_in f,
      ) in
      elim (cases_lt (k + 1) (length pages)) [
        | inl next ↦
            let again = each_read pool pages (k + 1) no_page walk.paged next in
            let at = page_at pool pages (k + 1) no_page next walk.paged.each in
            let some = walk.paged.filled (omega arith) (k + 1) no_page next in
            let long = ap (λ o. length (records_at o)) at.there in
            is_on _ _ _ _ _ again (p.first + stop) (omega (arith, at.first))
            (omega (arith, at.first, length-records_in at.frame))
        | inr last ↦
            let all = ap (λ ps. length (page_records_of pool ps)) (take_all (k + 1) pages last) in
            absurd (omega arith)
      ]

  pub walk_on : IsWalk pool pages (k + 1) (p.first + stop) end
  walk_on = record {
    paged = walk.paged;
    ordered = bounds.1.1;
    within = walk.within;
    few = walk.few;
    at = next_on;
  }

  -- the points of the run are those of the walk
  run_points : slice_range (points_of (page_records_of pool pages)) place (p.first + stop) ≡ slice_range
      (points_in f) (place - p.first) stop
  run_points =
      let ps = points_of (page_records_of pool pages) in
      let reach : p.first + stop ≤ length ps = omega
      (arith, bounds.1.1, walk.within, length-map (page_records_of pool pages) (λ r. r.point)) in
      let fits : stop ≤ length (points_in f) = omega (arith, bounds.1.0, length-points_in f) in
      let left = length-range ps place (p.first + stop) reach in
      let right = length-range (points_in f) (place - p.first) stop fits in
      let from = on.0 in
      same_lists (slice_range ps place (p.first + stop)) (slice_range (points_in f) (place - p.first) stop)
      (omega arith)
      (λ j d inside.
      let upto : j < p.first + stop - place = omega arith in
      let there : (place + j) - p.first ≡ place - p.first + j = omega arith in
      let here : get_or (page_records_of pool pages) (place + j) no_rec ≡ rec_in f ((place + j) - p.first) =
      read_on _ _ _ _ _ is (place + j) no_rec (omega arith) (omega (arith, bounds.1.0)) in
      get_or-range ps place (p.first + stop) j d upto
      ∙ (get_or-map (λ (r : Rec). r.point) (page_records_of pool pages) (place + j) no_rec d
      (omega (arith, reach, length-map (page_records_of pool pages) (λ r. r.point)))
      ∙ (ap (λ (r : Rec). r.point) here
      ∙ (sym (get_or-points_in f ((place + j) - p.first) d (omega (arith, bounds.1.0)))
      ∙ (ap (λ n. get_or (points_in f) n d) there
      ∙ sym (get_or-range (points_in f) (place - p.first) stop j d (omega arith)))))))

  pub walk_split : slice_range (points_of (page_records_of pool pages)) place end
      ≡ slice_range (points_of (page_records_of pool pages)) place (p.first + stop)
      ++ slice_range (points_of (page_records_of pool pages)) (p.first + stop) end
  walk_split = range_joined (points_of (page_records_of pool pages)) place (p.first + stop) end
      (omega (arith, bounds.0, on.0)) bounds.1.1

  -- and so is its summary
  pub run_is : (s : Summary) → s ≡ summary_of (slice_range (points_of (page_in pool p)) (place - p.first) stop)
      → IsRun pool pages place (p.first + stop) s
  run_is s same = record {
    paged = walk.paged;
    some = omega (arith, bounds.0, on.0);
    within = omega (arith, bounds.1.1, walk.within);
    is = same ∙ ap (λ l. summary_of (slice_range (points_of l) (place - p.first) stop)) (ap records_at is.there)
        ∙ ap summary_of (sym run_points);
  }

-- ---- whole blocks

-- pages that each have records have records
some_records : (pool : List (Option Frame)) (pages : List Page) → 0 < length pages → All (HasSome pool) pages
    → 0 < length (page_records_of pool pages)
some_records pool [] some filled = absurd (omega arith)
some_records pool (p ∷ ps) some filled =
    omega (arith, All-head (HasSome pool) p ps filled, length-append (page_in pool p) (page_records_of pool ps))

-- pages up to one among them
module _ (pool : List (Option Frame)) (pages : List Page) (k place behind end : ℕ) (s : Summary) (d : Page)
    (walk : IsWalk pool pages k place end)
    (begins : (get_or pages k d).first ≡ place) (inside : k + 64 < length pages)
    (ends : (get_or pages (k + 64) d).first ≡ behind) (before : behind ≤ end)
    (is : s ≡ joined_of (map (λ p. p.summary) (take 64 (drop k pages)))) where
  abbrev front : List Page
  front = take k pages

  abbrev block : List Page
  block = take 64 (drop k pages)

  abbrev rest : List Page
  rest = drop 64 (drop k pages)

  parts : pages ≡ front ++ (block ++ rest)
  parts = sym (ap (λ l. front ++ l) (take-append-drop 64 (drop k pages)) ∙ take-append-drop k pages)

  paged : ArePages pool pages
  paged = walk.paged

  from : length (page_records_of pool front) ≡ place
  from = sym (page_at pool pages k d (omega (arith, inside)) paged.each).first ∙ begins

  upto : length (page_records_of pool (take (k + 64) pages)) ≡ behind
  upto = sym (page_at pool pages (k + 64) d inside paged.each).first ∙ ends

  -- the records of the block
  long : length (page_records_of pool block) + place ≡ behind
  long =
      let two = take-add k 64 pages in
      omega (
        arith,
        from,
        upto,
        ap (λ l. length (page_records_of pool l)) two,
        ap length (records-append pool front block),
        length-append (page_records_of pool front) (page_records_of pool block),
      )

  many : length block ≡ 64
  many = omega (arith, length-take 64 (drop k pages), length-drop k pages, inside)

  filled : All (HasSome pool) block
  filled = All-take (HasSome pool) 64 (drop k pages) (All-drop (HasSome pool) k pages (paged.filled (omega (arith, inside))))

  each : ArePagesFrom pool (0 + length (page_records_of pool front)) block
  each = (pages_split pool _ block rest (pages_split pool 0 front (block ++ rest) (subst (ArePagesFrom pool 0) parts paged.each)).1).0

  -- the points of the block
  block_points : slice_range (points_of (page_records_of pool pages)) place behind ≡ points_of (page_records_of pool block)
  block_points =
      let A = points_of (page_records_of pool front) in
      let B = points_of (page_records_of pool block) in
      let C = points_of (page_records_of pool rest) in
      let whole : points_of (page_records_of pool pages) ≡ A ++ (B ++ C) =
      ap (λ l. points_of (page_records_of pool l)) parts
      ∙ (ap points_of (records-append pool front (block ++ rest) ∙ ap (λ l. page_records_of pool front ++ l) (records-append pool block rest))
      ∙ (map-append (λ (r : Rec). r.point) (page_records_of pool front) (page_records_of pool block ++ page_records_of pool rest)
      ∙ ap (λ l. A ++ l) (map-append (λ (r : Rec). r.point) (page_records_of pool block) (page_records_of pool rest)))) in
      let a : length A ≡ place = length-map (page_records_of pool front) (λ r. r.point) ∙ from in
      let b : length B ≡ behind - place = omega (arith, length-map (page_records_of pool block) (λ r. r.point), long) in
      ap (λ l. take (behind - place) (drop place l)) whole
      ∙ (ap (take (behind - place)) (drop_at A (B ++ C) place a) ∙ take_at B C (behind - place) b)

  some_there : 0 < length (page_records_of pool block)
  some_there =
      some_records pool block (omega (arith, many)) filled

  pub block_run : IsRun pool pages place behind s
  block_run = record {
    paged = paged;
    some = omega (arith, long, some_there);
    within = omega (arith, before, walk.within);
    is = is ∙ (pages_joined pool (0 + length (page_records_of pool front)) block (omega (arith, many)) each filled
        ∙ ap summary_of (sym block_points));
  }

  pub block_walk : IsWalk pool pages (k + 64) behind end
  block_walk = record {
    paged = paged;
    ordered = before;
    within = walk.within;
    few = walk.few;
    at = λ more.
        let again = each_read pool pages (k + 64) d paged inside in
        let at = page_at pool pages (k + 64) d inside paged.each in
        let some = paged.filled (omega arith) (k + 64) d inside in
        let count = ap (λ o. length (records_at o)) at.there in
        is_on _ _ _ _ _ again behind (omega (arith, at.first, upto))
        (omega (arith, at.first, upto, length-records_in at.frame, some, count));
  }

  pub block_split : slice_range (points_of (page_records_of pool pages)) place end
      ≡ slice_range (points_of (page_records_of pool pages)) place behind
      ++ slice_range (points_of (page_records_of pool pages)) behind end
  block_split = range_joined (points_of (page_records_of pool pages)) place behind end (omega (arith, long)) before
