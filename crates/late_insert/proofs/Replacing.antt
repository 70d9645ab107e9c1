-- A page in the middle that is replaced by others.
use Rattle.std.proofs.Common.{◌≡◌, ◌≢◌, inl, inr, ℕ, ◌+◌, ◌<◌, ◌≤◌, List, [], ◌∷◌, ◌++◌, length, map, get_or, set, take, drop, Option, Some, None, All, refl, sym, ap, ap₂, ◌∙◌, subst, arith, append_assoc, append-nil, length-append}
use Rattle.std.proofs.Common.{add-zero, zero-add}
use Rattle.std.specs.Prelude.{is_some}
use Rattle.std.proofs.lemmas.List.{get_or-set_same, get_or-set_other, map-append, length-map, take-append-drop, length-set, length-take-le, length-drop, get_or-take, nil_from_length}
use Rattle.std.proofs.lemmas.Bool.{cases_lt}
use Rattle.std.proofs.lemmas.List.Elements.{All-nil, All-cons, All-head, All-tail, All-append, All-map}
use Rattle.trend_num.specs.{Rec}
use Rattle.page_pool.specs.{Frame, frame_at, IsHeld}
use Rattle.page_pool.proofs.Stored.{held_within}
use Rattle.late_insert.specs.{Page, Summary, summary_of, moved, frame_records_in, records_at, page_in, page_records_of, IsPage, IsPageAt, ArePagesFrom, ArePages, AreApart, AreHalves, ids_of, lengths_of}
use Rattle.trend_model.specs.{IsRising, placed, points_of}
use Rattle.late_insert.proofs.Summing.{length-records_in, get_or-records_in}
use Rattle.late_insert.proofs.Finding.{no_rec, HasSome}
use Rattle.trend_model.proofs.Placing.{time, placed_middle, rising_placed, length-placed}
use Rattle.late_insert.proofs.Joining.{all_left, all_right, apart_at, apart_insert, each_page, each_id, ids-moved, Agree, records-agree, pages_agree, agree_set, records-append, pages_split, pages_join, records-moved, pages_moved}
use Rattle.late_insert.proofs.Joining.{lengths-agree, lengths-append, lengths-moved}

-- pages whose frames stay keep their records
pub some_agree : (pool new : List (Option Frame)) (pages : List Page) → Agree pool new pages
    → All (HasSome pool) pages → All (HasSome new) pages
some_agree pool new pages agree filled k d within =
    subst (λ o. 0 < length (records_at o)) (sym (agree k d within)) (filled k d within)

-- the pages at the end of these
halves_right : (pool : List (Option Frame)) (A X : List Page) → AreHalves pool (A ++ X) → AreHalves pool X
halves_right pool [] X halves = halves
halves_right pool (a ∷ A) X halves = halves_right pool A X halves.1

-- other pages after some that stay
pub halves_front : (pool new : List (Option Frame)) (A X Y : List Page) → Agree pool new A
    → AreHalves pool (A ++ X) → 0 < length X
    → AreHalves new Y → AreHalves new (A ++ Y)
halves_front pool new [] X Y agree halves some back = back
halves_front pool new (a ∷ A) X Y agree halves some back =
    let here = All-head (λ q. frame_at new q.id ≡ frame_at pool q.id) a A agree in
    let rest = All-tail (λ q. frame_at new q.id ≡ frame_at pool q.id) a A agree in (
      λ more. subst (λ o. 64 ≤ length (records_at o)) (sym here)
          (halves.0 (omega (arith, length-append A X))),
      halves_front pool new A X Y rest halves.1 some back,
    )

-- pages that are moved on
halves_moved : (pool new : List (Option Frame)) (by : ℕ) (B : List Page) → Agree pool new B → AreHalves pool B
    → AreHalves new (map (moved by) B)
halves_moved pool new by [] agree halves = tt
halves_moved pool new by (b ∷ B) agree halves =
    let here = All-head (λ q. frame_at new q.id ≡ frame_at pool q.id) b B agree in
    let rest = All-tail (λ q. frame_at new q.id ≡ frame_at pool q.id) b B agree in (
      λ more. subst (λ o. 64 ≤ length (records_at o)) (sym here)
          (halves.0 (omega (arith, length-map B (moved by)))),
      halves_moved pool new by B rest halves.1,
    )

module _ (pool new : List (Option Frame)) (A B Q : List Page) (p : Page) (by : ℕ)
    (each : ArePagesFrom pool 0 (A ++ p ∷ B))
    (front : Agree pool new A) (back : Agree pool new B)
    (inner : ArePagesFrom new (length (page_records_of pool A)) Q)
    (grown : length (page_records_of new Q) ≡ length (page_in pool p) + by) where
  pub records-replaced : page_records_of new (A ++ (Q ++ map (moved by) B)) ≡ page_records_of pool A ++
      (page_records_of new Q ++ page_records_of pool B)
  records-replaced =
      records-append new A (Q ++ map (moved by) B)
      ∙ ap₂ (λ xs ys. xs ++ ys) (records-agree pool new A front)
      (records-append new Q (map (moved by) B) ∙ ap (λ ys. page_records_of new Q ++ ys)
      (records-moved new by B ∙ records-agree pool new B back))

  pub lengths-replaced : lengths_of new (A ++ (Q ++ map (moved by) B)) ≡ lengths_of pool A ++
      (lengths_of new Q ++ lengths_of pool B)
  lengths-replaced =
      lengths-append new A (Q ++ map (moved by) B)
      ∙ ap₂ (λ xs ys. xs ++ ys) (lengths-agree pool new A front)
      (lengths-append new Q (map (moved by) B) ∙ ap (λ ys. lengths_of new Q ++ ys)
      (lengths-moved new by B ∙ lengths-agree pool new B back))

  pub pages_replaced : ArePagesFrom new 0 (A ++ (Q ++ map (moved by) B))
  pages_replaced =
      let parts = pages_split pool 0 A (p ∷ B) each in
      let same = ap length (records-agree pool new A front) in
      let behind = pages_moved new _ by B (pages_agree pool new _ B back parts.1.1) in
      let place : 0 + length (page_records_of pool A) + length (page_in pool p) + by ≡ length (page_records_of pool A) +
      length (page_records_of new Q) = omega arith in
      let place' : length (page_records_of pool A) ≡ 0 + length (page_records_of new A) = omega arith in
      let rest : ArePagesFrom new (length (page_records_of pool A)) (Q ++ map (moved by) B) =
      pages_join new (length (page_records_of pool A)) Q (map (moved by) B) inner
      (subst (λ n. ArePagesFrom new n (map (moved by) B)) place behind) in
      pages_join new 0 A (Q ++ map (moved by) B) (pages_agree pool new 0 A front parts.0)
      (subst (λ n. ArePagesFrom new n (Q ++ map (moved by) B)) place' rest)

  pub some_replaced : All (HasSome pool) A → All (HasSome new) Q → All (HasSome pool) B
      → All (HasSome new) (A ++ (Q ++ map (moved by) B))
  some_replaced a q b =
      All-append (HasSome new) A (Q ++ map (moved by) B) (some_agree pool new A front a)
      (All-append (HasSome new) Q (map (moved by) B) q
      (All-map (HasSome new) (moved by) B (some_agree pool new B back b)))

-- the ids on both sides of a page
pub ids_around : (A B : List Page) (p : Page) → AreApart (ids_of (A ++ p ∷ B))
    → All (λ x. x.id ≢ p.id) A × All (λ x. x.id ≢ p.id) B
ids_around A B p apart =
    let sides = apart_at (ids_of A) p.id (ids_of B)
    (subst AreApart (map-append (λ (x : Page). x.id) A (p ∷ B)) apart) in
    (each_page (λ i. i ≢ p.id) A sides.0, each_page (λ i. i ≢ p.id) B sides.1)

-- a page's frame is there, so it can be written
pub write_there : (pool : List (Option Frame)) (id : ℕ) (f g : Frame) → frame_at pool id ≡ Some f
    → frame_at (set pool id (Some g)) id ≡ Some g
write_there pool id f g there =
    let held : IsHeld pool id = ap is_some there in
    get_or-set_same pool id (Some g) None (held_within pool id held)

-- ---- one record more

module _ (pool : List (Option Frame)) (A B : List Page) (p : Page) (g : Frame) (r : Rec) (by : ℕ) (s : Summary)
    (summary : s ≡ summary_of (points_of (frame_records_in g))) (paged : ArePages pool (A ++ p ∷ B))
    (page : IsPage g) (records : frame_records_in g ≡ placed r (page_in pool p))
    (grown : length (frame_records_in g) ≡ length (page_in pool p) + by)
    (before : All (λ x. time x < time r) (page_records_of pool A))
    (after : All (λ x. time r < time x) (page_records_of pool B)) where
  -- the page with the record
  abbrev pub put_page : Page
  put_page = record { id = p.id; first = p.first; start = get_or g.times 0 0; summary = s }

  abbrev pub put_pages : List Page
  put_pages = A ++ put_page ∷ map (moved by) B

  abbrev pub put_pool : List (Option Frame)
  put_pool = set pool p.id (Some g)

  put_there : frame_at put_pool p.id ≡ Some g
  put_there =
      let at = (pages_split pool 0 A (p ∷ B) paged.each).1.0 in
      write_there pool p.id at.frame g at.there

  put_inner : ArePagesFrom put_pool (length (page_records_of pool A)) (put_page ∷ [])
  put_inner =
      let at = (pages_split pool 0 A (p ∷ B) paged.each).1.0 in (
        record {
          frame = g;
          there = put_there;
          page = page;
          first = at.first
              ∙ zero-add (length (page_records_of pool A));
          start = refl;
          summary = summary;
        },
        tt,
      )

  put_alone : page_records_of put_pool (put_page ∷ []) ≡ frame_records_in g
  put_alone = append-nil (page_in put_pool put_page) ∙ ap records_at put_there

  put_sides : All (λ x. x.id ≢ p.id) A × All (λ x. x.id ≢ p.id) B
  put_sides = ids_around A B p paged.apart

  pub records-put : page_records_of put_pool put_pages ≡ placed r (page_records_of pool (A ++ p ∷ B))
  records-put =
      records-replaced pool put_pool A B (put_page ∷ []) p by paged.each
      (agree_set pool p.id (Some g) A put_sides.0)
      (agree_set pool p.id (Some g) B put_sides.1) put_inner (ap length put_alone ∙ grown)
      ∙ (ap (λ l. page_records_of pool A ++ (l ++ page_records_of pool B)) (put_alone ∙ records)
      ∙ (sym (placed_middle r (page_records_of pool A) (page_in pool p) (page_records_of pool B) before after)
      ∙ ap (placed r) (sym (records-append pool A (p ∷ B)))))

  pub lengths-put : lengths_of put_pool put_pages ≡ lengths_of pool A ++ (length (page_in pool p) + by) ∷ lengths_of pool B
  lengths-put =
      lengths-replaced pool put_pool A B (put_page ∷ []) p by paged.each
      (agree_set pool p.id (Some g) A put_sides.0)
      (agree_set pool p.id (Some g) B put_sides.1) put_inner (ap length put_alone ∙ grown)
      ∙ ap (λ n. lengths_of pool A ++ n ∷ lengths_of pool B) (ap length (ap records_at put_there) ∙ grown)

  -- the page has no fewer records than it had
  put_more : length (page_in pool p) ≤ length (page_in put_pool put_page)
  put_more =
      let long = (length-placed r (page_in pool p)).0 in
      omega (arith, ap length (ap records_at put_there), ap length records)

  pub pages_put : ArePages put_pool put_pages
  pages_put = record {
    each = pages_replaced pool put_pool A B (put_page ∷ []) p by paged.each
        (agree_set pool p.id (Some g) A put_sides.0)
        (agree_set pool p.id (Some g) B put_sides.1) put_inner (ap length put_alone ∙ grown);
    apart =
        let same : ids_of put_pages ≡ ids_of (A ++ p ∷ B) =
        map-append (λ (x : Page). x.id) A (put_page ∷ map (moved by) B)
        ∙ (ap (λ ids. ids_of A ++ p.id ∷ ids) (ids-moved by B)
        ∙ sym (map-append (λ (x : Page). x.id) A (p ∷ B))) in
        subst AreApart (sym same) paged.apart;
    rising = subst IsRising (sym records-put) (rising_placed r (page_records_of pool (A ++ p ∷ B)) paged.rising);
    some = omega (arith, length-append A (put_page ∷ map (moved by) B));
    halves =
        let rest = halves_right pool A (p ∷ B) paged.halves in
        let back = halves_moved pool put_pool by B (agree_set pool p.id (Some g) B put_sides.1) rest.1 in
        halves_front pool put_pool A (p ∷ B) (put_page ∷ map (moved by) B)
        (agree_set pool p.id (Some g) A put_sides.0) paged.halves (omega arith)
        (λ more. let half = rest.0 (omega (arith, length-map B (moved by))) in omega (arith, put_more), back);
    filled = λ several.
        let filled = paged.filled (omega (
          arith,
          length-append A (put_page ∷ map (moved by) B),
          length-append
              A (p ∷ B),
          length-map B (moved by),
        )) in
        let rest = all_right (HasSome pool) A (p ∷ B) filled in
        let some : HasSome pool p = All-head (HasSome pool) p B rest in
        some_replaced pool put_pool A B (put_page ∷ []) p by paged.each
        (agree_set pool p.id (Some g) A put_sides.0)
        (agree_set pool p.id (Some g) B put_sides.1) put_inner (ap length put_alone ∙ grown)
        (all_left (HasSome pool) A (p ∷ B) filled)
        (All-cons (HasSome put_pool) put_page [] (omega (arith, put_more)) (All-nil (HasSome put_pool)))
        (All-tail (HasSome pool) p B rest);
  }

-- ---- a page in two halves

-- a page that moves by none
moved_none : (pages : List Page) → map (moved 0) pages ≡ pages
moved_none [] = refl
moved_none (p ∷ ps) =
    ap₂ (λ x xs. x ∷ xs) (ap (λ n. record { id = p.id; first = n; start = p.start; summary = p.summary })
    (add-zero p.first)) (moved_none ps)

-- no page has an id that is spare
pub spare_apart : (pool : List (Option Frame)) (place : ℕ) (pages : List Page) (id : ℕ)
    → ArePagesFrom pool place pages → frame_at pool id ≡ None
    → All (λ p. p.id ≢ id) pages
spare_apart pool place [] id each spare = All-nil (λ p. p.id ≢ id)
spare_apart pool place (p ∷ ps) id each spare =
    let there = each.0.there in
    All-cons (λ q. q.id ≢ id) p ps (λ same. let none = subst (λ i. frame_at pool i ≡ None) (sym same) spare in
    absurd cc)
    (spare_apart pool (place + length (page_in pool p)) ps id each.1 spare)

module _ (pool : List (Option Frame)) (A B : List Page) (p : Page) (lo hi e : Frame) (id : ℕ) (s t : Summary)
    (lower_summary : s ≡ summary_of (points_of (frame_records_in lo)))
    (upper_summary : t ≡ summary_of (points_of (frame_records_in hi))) (paged : ArePages pool (A ++ p ∷ B))
    (lower : IsPage lo) (upper : IsPage hi) (lower_records : frame_records_in lo ≡ take 64 (page_in pool p))
    (upper_records : frame_records_in hi ≡ drop 64 (page_in pool p)) (full : length (page_in pool p) ≡ 128)
    (within : id < length (set pool p.id (Some lo))) (spare : frame_at (set pool p.id (Some lo)) id ≡ None)
  where
    -- the pages of both halves
    abbrev pub lower_page : Page
    lower_page = record { id = p.id; first = p.first; start = p.start; summary = s }

    abbrev pub upper_page : Page
    upper_page = record { id = id; first = p.first + 64; start = get_or hi.times 0 0; summary = t }

    abbrev pub split_pool : List (Option Frame)
    split_pool = set (set (set pool p.id (Some lo)) id (Some e)) id (Some hi)

    abbrev pub split_pages : List Page
    split_pages = A ++ lower_page ∷ upper_page ∷ B

    at_p : IsPageAt pool (0 + length (page_records_of pool A)) p
    at_p = (pages_split pool 0 A (p ∷ B) paged.each).1.0

    sides : All (λ x. x.id ≢ p.id) A × All (λ x. x.id ≢ p.id) B
    sides = ids_around A B p paged.apart

    low_there : frame_at (set pool p.id (Some lo)) p.id ≡ Some lo
    low_there = write_there pool p.id at_p.frame lo at_p.there

    p_apart : p.id ≢ id
    p_apart same = let none = subst (λ i. frame_at (set pool p.id (Some lo)) i ≡ None) (sym same) spare in let
        there = low_there in absurd cc

    -- no other page has the new id
    id_apart : (place : ℕ) (pages : List Page) → ArePagesFrom pool place pages → All (λ x. x.id ≢ p.id) pages
        → All (λ x. x.id ≢ id) pages
    id_apart place pages each other =
        spare_apart (set pool p.id (Some lo)) place pages id
        (pages_agree pool (set pool p.id (Some lo)) place pages (agree_set pool p.id (Some lo) pages other)
        each) spare

    agree_split : (place : ℕ) (pages : List Page) → ArePagesFrom pool place pages → All (λ x. x.id ≢ p.id) pages
        → Agree pool split_pool pages
    agree_split place pages each other k d inside =
        let apart = id_apart place pages each other k d inside in
        get_or-set_other (set (set pool p.id (Some lo)) id (Some e)) id (get_or pages k d).id
        (Some hi) None apart
        ∙ (get_or-set_other (set pool p.id (Some lo)) id (get_or pages k d).id (Some e) None apart
        ∙ get_or-set_other pool p.id (get_or pages k d).id (Some lo) None (other k d inside))

    front_agrees : Agree pool split_pool A
    front_agrees = agree_split 0 A (pages_split pool 0 A (p ∷ B) paged.each).0 sides.0

    back_agrees : Agree pool split_pool B
    back_agrees = agree_split _ B (pages_split pool 0 A (p ∷ B) paged.each).1.1 sides.1

    p_there : frame_at split_pool p.id ≡ Some lo
    p_there =
        get_or-set_other (set (set pool p.id (Some lo)) id (Some e)) id p.id (Some hi) None p_apart
        ∙ (get_or-set_other (set pool p.id (Some lo)) id p.id (Some e) None p_apart ∙ low_there)

    id_there : frame_at split_pool id ≡ Some hi
    id_there =
        get_or-set_same (set (set pool p.id (Some lo)) id (Some e)) id (Some hi) None
        (omega (arith, within, length-set (set pool p.id (Some lo)) id (Some e)))

    pub low_len : length (page_in split_pool lower_page) ≡ 64
    low_len = ap length (ap records_at p_there ∙ lower_records) ∙ length-take-le 64 (page_in pool p)
        (omega (arith, full))

    pub high_len : length (page_in split_pool upper_page) ≡ 64
    high_len = ap length (ap records_at id_there ∙ upper_records)
        ∙ (length-drop 64 (page_in pool p) ∙ omega (arith, full))

    -- both halves hold what the page held
    both_records : page_records_of split_pool (lower_page ∷ upper_page ∷ []) ≡ page_in pool p
    both_records =
        ap₂ (λ xs ys. xs ++ ys) (ap records_at p_there ∙ lower_records)
        (append-nil (page_in split_pool upper_page) ∙ (ap records_at id_there ∙ upper_records))
        ∙ take-append-drop 64 (page_in pool p)

    first_time : get_or lo.times 0 0 ≡ get_or at_p.frame.times 0 0
    first_time =
        let some : 0 < lo.len = omega (
          arith,
          length-records_in lo,
          ap length lower_records,
          length-take-le 64
              (page_in pool p) (omega (arith, full)),
        ) in
        let is : page_in pool p ≡ frame_records_in at_p.frame = ap records_at at_p.there in
        let long : 0 < at_p.frame.len = omega (arith, length-records_in at_p.frame, ap length is, full) in
        ap time (sym (get_or-records_in lo 0 no_rec some) ∙ (ap (λ l. get_or l 0 no_rec) lower_records
        ∙ (get_or-take 64 (page_in pool p) 0 no_rec (omega arith)
        ∙ (ap (λ l. get_or l 0 no_rec) is ∙ get_or-records_in at_p.frame 0 no_rec long))))

    inner : ArePagesFrom split_pool (length (page_records_of pool A)) (lower_page ∷ upper_page ∷ [])
    inner =
        let place = zero-add (length (page_records_of pool A)) in (
          record {
            frame = lo;
            there = p_there;
            page = lower;
            first = at_p.first ∙ place;
            start = at_p.start ∙ sym first_time;
            summary = lower_summary;
          },
          (
            record {
              frame = hi;
              there = id_there;
              page = upper;
              first = omega (arith, at_p.first, low_len);
              start = refl;
              summary = upper_summary;
            },
            tt,
          ),
        )

    grown : length (page_records_of split_pool (lower_page ∷ upper_page ∷ [])) ≡ length (page_in pool p) + 0
    grown = ap length both_records ∙ sym (add-zero (length (page_in pool p)))

    joined : A ++ ((lower_page ∷ upper_page ∷ []) ++ map (moved 0) B) ≡ split_pages
    joined = ap (λ ps. A ++ lower_page ∷ upper_page ∷ ps) (moved_none B)

    pub records-split : page_records_of split_pool split_pages ≡ page_records_of pool (A ++ p ∷ B)
    records-split =
        ap (page_records_of split_pool) (sym joined)
        ∙ (records-replaced pool split_pool A B (lower_page ∷ upper_page ∷ []) p 0 paged.each front_agrees
        back_agrees inner grown
        ∙ (ap (λ l. page_records_of pool A ++ (l ++ page_records_of pool B)) both_records
        ∙ sym (records-append pool A (p ∷ B))))

    pub lengths-split : lengths_of split_pool split_pages ≡ lengths_of pool A ++ 64 ∷ 64 ∷ lengths_of pool B
    lengths-split =
        ap (lengths_of split_pool) (sym joined)
        ∙ (lengths-replaced pool split_pool A B (lower_page ∷ upper_page ∷ []) p 0 paged.each front_agrees
        back_agrees inner grown
        ∙ ap₂ (λ m n. lengths_of pool A ++ m ∷ n ∷ lengths_of pool B) low_len high_len)

    pub pages_in_halves : ArePages split_pool split_pages
    pages_in_halves = record {
      each = subst (ArePagesFrom split_pool 0) joined
          (pages_replaced pool split_pool A B (lower_page ∷ upper_page ∷ []) p 0 paged.each front_agrees
          back_agrees inner grown);
      apart =
          let parts = pages_split pool 0 A (p ∷ B) paged.each in
          let left = each_id (λ i. i ≢ id) A (id_apart 0 A parts.0 sides.0) in
          let right = each_id (λ i. i ≢ id) B (id_apart _ B parts.1.1 sides.1) in
          let before : ids_of (A ++ p ∷ B) ≡ (ids_of A ++ p.id ∷ []) ++ ids_of B =
          map-append (λ (x : Page). x.id) A (p ∷ B) ∙ sym (append_assoc (ids_of A) (p.id ∷ []) (ids_of B)) in
          let after : (ids_of A ++ p.id ∷ []) ++ id ∷ ids_of B ≡ ids_of split_pages =
          append_assoc (ids_of A) (p.id ∷ []) (id ∷ ids_of B)
          ∙ sym (map-append (λ (x : Page). x.id) A (lower_page ∷ upper_page ∷ B)) in
          subst AreApart after (apart_insert (ids_of A ++ p.id ∷ []) (ids_of B) id
          (subst AreApart before paged.apart)
          (All-append (λ i. i ≢ id) (ids_of A) (p.id ∷ []) left
          (All-cons (λ i. i ≢ id) p.id [] p_apart (All-nil (λ i. i ≢ id)))) right);
      rising = subst IsRising (sym records-split) paged.rising;
      some = omega (arith, length-append A (lower_page ∷ upper_page ∷ B));
      halves = subst (AreHalves split_pool) joined
          (halves_front pool split_pool A (p ∷ B) (lower_page ∷ upper_page ∷ map (moved 0) B) front_agrees
          paged.halves (omega arith) (
            λ more. omega (arith, low_len),
            (
              λ more. omega (arith, high_len),
              halves_moved pool split_pool 0 B back_agrees (halves_right pool A (p ∷ B) paged.halves).1,
            ),
          ));
      filled = λ several. subst (All (HasSome split_pool)) joined
          (some_replaced pool split_pool A B (lower_page ∷ upper_page ∷ []) p 0 paged.each front_agrees
          back_agrees inner grown some_sides.0
          (All-cons (HasSome split_pool) lower_page (upper_page ∷ []) (omega (arith, low_len))
          (All-cons (HasSome split_pool) upper_page [] (omega (arith, high_len))
          (All-nil (HasSome split_pool)))) some_sides.1);
    }
      where
        some_sides : All (HasSome pool) A × All (HasSome pool) B
        some_sides = elim (cases_lt 1 (length (A ++ p ∷ B))) [
          | inl several ↦
              let filled = paged.filled several in (
                all_left (HasSome pool) A (p ∷ B) filled,
                All-tail (HasSome pool) p B
                    (all_right (HasSome pool) A (p ∷ B) filled),
              )
          | inr one ↦
              let long = length-append A (p ∷ B) in
              let no_front : A ≡ [] = nil_from_length A (omega arith) in
              let no_back : B ≡ [] = nil_from_length B (omega arith) in
              (rw no_front (All-nil (HasSome pool)), rw no_back (All-nil (HasSome pool)))
        ]
