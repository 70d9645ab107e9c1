-- A page in a frame that was taken: the first one, and one after all others.
use Rattle.std.proofs.Common.{◌≡◌, ◌≢◌, ℕ, pos, suc, ◌+◌, ◌-◌, ◌<◌, ◌≤◌, inl, inr, List, [], ◌∷◌, ◌++◌, length, get_or, set, Option, Some, None, All, refl, sym, ap, ap₂, ◌∙◌, subst, arith, append-nil, length-append}
use Rattle.std.proofs.lemmas.List.{get_or-set_same, get_or-set_other, length-replicate, length-set, map-append}
use Rattle.std.proofs.lemmas.List.Elements.{All-nil, All-cons, All-head, All-tail, All-append}
use Rattle.std.proofs.lemmas.Bool.{cases_lt}
use Rattle.trend_num.specs.{Rec, InRange}
use Rattle.page_pool.specs.{Frame, frame_at, TakesFrame, empty_frame}
use Rattle.late_insert.specs.{Page, Summary, summary_of, no_summary, AreApart, ids_of, frame_records_in, records_at, page_in, page_records_of, IsPage, IsPageAt, ArePagesFrom, ArePages, AreHalves, lengths_of}
use Rattle.trend_model.specs.{IsRising, points_of}
use Rattle.trend_model.proofs.Placing.{rising_nil}
use Rattle.late_insert.proofs.Finding.{HasSome}
use Rattle.late_insert.proofs.Joining.{Agree, records-agree, pages_agree, records-append, pages_join, apart_insert, each_id, lengths-agree, lengths-append}
use Rattle.late_insert.proofs.Replacing.{some_agree, spare_apart}

-- ---- the first page

-- an empty frame is a page of no records
pub empty_page : IsPage empty_frame
unfolding empty_frame
empty_page = record {
  recorded = record {
    few = omega arith;
    times = length-replicate {A = ℕ} 128 0;
    values = length-replicate 128 (pos 0);
    marks = omega arith;
    range = All-nil (λ (r : Rec). InRange r.point);
  };
  area = refl;
  low = refl;
  high = refl;
}

-- it has none
empty_records : frame_records_in empty_frame ≡ []
unfolding empty_frame
empty_records = refl

-- and starts at 0
empty_start : get_or empty_frame.times 0 0 ≡ 0
unfolding empty_frame
empty_start = refl

-- with no points
pub empty_summary : summary_of (points_of (frame_records_in empty_frame)) ≡ no_summary
empty_summary = ap (λ l. summary_of (points_of l)) empty_records

module _ (pool new : List (Option Frame)) (pages : List Page) (id : ℕ) (takes : TakesFrame pool id new)
    (list : pages ≡ record { id = id; first = 0; start = 0; summary = no_summary } ∷ []) where
  -- the frame that was taken is empty
  empty_there : frame_at new id ≡ Some empty_frame
  empty_there = ap (λ ps. frame_at ps id) takes.now_empty
      ∙ get_or-set_same pool id (Some empty_frame) None takes.within

  -- the first page has no records
  pub no_records : page_records_of new pages ≡ []
  no_records = ap (page_records_of new) list
      ∙ (append-nil (records_at (frame_at new id)) ∙ (ap records_at empty_there ∙ empty_records))

  pub no_lengths : lengths_of new pages ≡ 0 ∷ []
  no_lengths = ap (lengths_of new) list
      ∙ ap (λ l. length l ∷ []) (ap records_at empty_there ∙ empty_records)

  -- and is a page
  pub first_page_is : ArePages new pages
  first_page_is = record {
    each = subst (ArePagesFrom new 0) (sym list) (
      record {
        frame = empty_frame;
        there = empty_there;
        page = empty_page;
        first = refl;
        start =
            sym empty_start;
        summary = sym empty_summary;
      },
      tt,
    );
    apart = subst (λ ps. AreApart (ids_of ps)) (sym list) (All-nil (λ y. y ≢ id), tt);
    rising = subst IsRising (sym no_records) rising_nil;
    some = omega (arith, ap length list);
    halves = subst (AreHalves new) (sym list) (λ more. absurd (omega arith), tt);
    filled = λ several. absurd (omega (arith, ap length list));
  }

-- ---- a page after all others

-- what is found in a frame that was taken is empty
pub taken_empty : (pool new : List (Option Frame)) (id : ℕ) (f : Frame) → TakesFrame pool id new
    → frame_at new id ≡ Some f → f ≡ empty_frame
taken_empty pool new id f takes there =
    let empty : frame_at new id ≡ Some empty_frame =
    ap (λ ps. frame_at ps id) takes.now_empty ∙ get_or-set_same pool id (Some empty_frame) None
    takes.within in
    cc

-- after pages of which the last is half full another one may come
halves_end : (pool new : List (Option Frame)) (pages : List Page) (q : Page) → Agree pool new pages
    → AreHalves pool pages
    → ((k : ℕ) (d : Page) → k + 1 ≡ length pages → 64 ≤ length (page_in pool (get_or pages k d)))
    → AreHalves new (pages ++ q ∷ [])
halves_end pool new [] q agree halves last = (λ more. absurd (omega arith), tt)
halves_end pool new (p ∷ []) q agree halves last =
    let here = All-head (λ o. frame_at new o.id ≡ frame_at pool o.id) p [] agree in (
      λ more. subst (λ o. 64 ≤ length (records_at o)) (sym here) (last 0 p (omega arith)),
      (λ more. absurd (omega arith), tt),
    )
halves_end pool new (p ∷ o ∷ ps) q agree halves last =
    let here = All-head (λ x. frame_at new x.id ≡ frame_at pool x.id) p (o ∷ ps) agree in
    let rest = All-tail (λ x. frame_at new x.id ≡ frame_at pool x.id) p (o ∷ ps) agree in (
      λ more. subst (λ x. 64 ≤ length (records_at x)) (sym here) (halves.0 (omega arith)),
      halves_end pool new (o ∷ ps) q rest halves.1 (λ k d is. last (suc k) d (omega arith)),
    )

-- what is left where a frame was taken and written with a run of records, and its page put after the others
module _ (pool taken : List (Option Frame)) (pages : List Page) (id first : ℕ) (g : Frame) (run : List Rec)
    (paged : ArePages pool pages)
    (takes : TakesFrame pool id taken) (page : IsPage g) (summary : Summary)
    (summary_is : summary ≡ summary_of (points_of (frame_records_in g)))
    (records : frame_records_in g ≡ run) (counted : first ≡ length (page_records_of pool pages)) (some : 0 < length run)
    (rising : IsRising (page_records_of pool pages ++ run))
    (full : (d : Page) → length (page_in pool (get_or pages (length pages - 1) d)) ≡ 128) where
  -- the page
  abbrev pub opened_page : Page
  opened_page = record { id = id; first = first; start = get_or g.times 0 0; summary = summary }

  -- the pool
  abbrev pub opened_pool : List (Option Frame)
  opened_pool = set (set pool id (Some empty_frame)) id (Some g)

  pool_is : set taken id (Some g) ≡ opened_pool
  pool_is = ap (λ ps. set ps id (Some g)) takes.now_empty

  others : All (λ p. p.id ≢ id) pages
  others = spare_apart pool 0 pages id paged.each takes.was_spare

  agree : Agree pool opened_pool pages
  agree k d inside =
      get_or-set_other (set pool id (Some empty_frame)) id (get_or pages k d).id (Some g) None
      (others k d inside)
      ∙ get_or-set_other pool id (get_or pages k d).id (Some empty_frame) None (others k d inside)

  there : frame_at opened_pool id ≡ Some g
  there =
      let long = length-set pool id (Some empty_frame) in
      get_or-set_same (set pool id (Some empty_frame)) id (Some g) None (omega (arith, takes.within))

  records_there : page_records_of opened_pool (pages ++ opened_page ∷ []) ≡ page_records_of pool pages ++ run
  records_there =
      records-append opened_pool pages (opened_page ∷ [])
      ∙ ap₂ (λ xs ys. xs ++ ys) (records-agree pool opened_pool pages agree)
      (append-nil (page_in opened_pool opened_page) ∙ (ap records_at there ∙ records))

  lengths_there : lengths_of opened_pool (pages ++ opened_page ∷ []) ≡ lengths_of pool pages ++ length run ∷ []
  lengths_there =
      lengths-append opened_pool pages (opened_page ∷ [])
      ∙ ap₂ (λ xs n. xs ++ n ∷ []) (lengths-agree pool opened_pool pages agree)
      (ap length (ap records_at there ∙ records))

  all_some : All (HasSome pool) pages
  all_some = elim (cases_lt 1 (length pages)) [
    | inl several ↦ paged.filled several
    | inr one ↦ λ k d inside. let last : k ≡ length pages - 1 = omega arith in let long = full d in rw last
        (omega arith)
  ]

  at_end : IsPageAt opened_pool (0 + length (page_records_of opened_pool pages)) opened_page
  at_end = record {
    frame = g;
    there = there;
    page = page;
    first = omega (arith, counted, ap length (records-agree pool opened_pool pages agree));
    start = refl;
    summary = summary_is;
  }

  apart_there : AreApart (ids_of (pages ++ opened_page ∷ []))
  apart_there =
      let same : ids_of pages ++ id ∷ [] ≡ ids_of (pages ++ opened_page ∷ []) = sym
      (map-append (λ (x : Page). x.id) pages (opened_page ∷ [])) in
      subst AreApart same (apart_insert (ids_of pages) [] id
      (subst AreApart (sym (append-nil (ids_of pages))) paged.apart)
      (each_id (λ i. i ≢ id) pages others) (All-nil (λ i. i ≢ id)))

  some_there : HasSome opened_pool opened_page
  some_there = omega (arith, ap length (ap records_at there), ap length records, some)

  pages_there : ArePages opened_pool (pages ++ opened_page ∷ [])
  pages_there = record {
    each = pages_join opened_pool 0 pages (opened_page ∷ [])
        (pages_agree pool opened_pool 0 pages agree paged.each) (at_end, tt);
    apart = apart_there;
    rising = subst IsRising (sym records_there) rising;
    some = omega (arith, length-append pages (opened_page ∷ []));
    halves = halves_end pool opened_pool pages opened_page agree paged.halves
        (λ k d is. let same : k ≡ length pages - 1 = omega arith in let long = full d in rw same
        (omega arith));
    filled = λ several. All-append (HasSome opened_pool) pages (opened_page ∷ [])
        (some_agree pool opened_pool pages agree all_some)
        (All-cons (HasSome opened_pool) opened_page [] some_there (All-nil (HasSome opened_pool)));
  }

  pub pages_opened : ArePages (set taken id (Some g)) (pages ++ opened_page ∷ [])
  pages_opened = subst (λ ps. ArePages ps (pages ++ opened_page ∷ [])) (sym pool_is) pages_there

  pub records-opened : page_records_of (set taken id (Some g)) (pages ++ opened_page ∷ []) ≡ page_records_of pool pages ++ run
  records-opened = ap (λ ps. page_records_of ps (pages ++ opened_page ∷ [])) pool_is ∙ records_there

  pub lengths-opened : lengths_of (set taken id (Some g)) (pages ++ opened_page ∷ []) ≡ lengths_of pool pages ++ length run ∷ []
  lengths-opened = ap (λ ps. lengths_of ps (pages ++ opened_page ∷ [])) pool_is ∙ lengths_there
