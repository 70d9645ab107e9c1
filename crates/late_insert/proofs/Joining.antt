-- Pages one after another.
use Rattle.std.proofs.Common.{◌≡◌, ◌≢◌, ℕ, ◌+◌, ◌<◌, List, [], ◌∷◌, ◌++◌, length, map, get_or, set, take, drop, Option, None, All, refl, sym, ap, ap₂, ◌∙◌, subst, arith, length-append, add-zero, zero-add}
use Rattle.std.proofs.lemmas.List.{get_or_append_left, get_or-append-add, get_or-set_other, take-append-drop, drop_more, map-append}
use Rattle.std.proofs.lemmas.List.Concat.{flat_map-append}
use Rattle.std.proofs.lemmas.List.Elements.{All-nil, All-cons, All-head, All-tail, All-append}
use Rattle.page_pool.specs.{Frame, frame_at}
use Rattle.late_insert.specs.{Page, moved, records_at, page_in, page_records_of, lengths_of, IsPageAt, ArePagesFrom, AreApart, ids_of}

-- ---- facts of each of two lists

pub all_left : {X : Type 0} (P : X → Type 0) (xs ys : List X) → All P (xs ++ ys) → All P xs
all_left P xs ys all k d within = subst P (get_or_append_left xs ys d k within)
    (all k d (omega (arith, length-append xs ys)))

pub all_right : {X : Type 0} (P : X → Type 0) (xs ys : List X) → All P (xs ++ ys) → All P ys
all_right P xs ys all k d within = subst P (get_or-append-add xs ys k d)
    (all (length xs + k) d (omega (arith, length-append xs ys)))

-- ---- ids

-- an id is none of those on both sides of it
pub apart_at : (xs : List ℕ) (y : ℕ) (ys : List ℕ) → AreApart (xs ++ y ∷ ys)
    → All (λ x. x ≢ y) xs × All (λ x. x ≢ y) ys
apart_at [] y ys apart = (All-nil (λ x. x ≢ y), apart.0)
apart_at (x ∷ xs) y ys apart =
    let rest = apart_at xs y ys apart.1 in
    let other : y ≢ x = All-head (λ z. z ≢ x) y ys (all_right (λ z. z ≢ x) xs (y ∷ ys) apart.0) in
    (All-cons (λ z. z ≢ y) x xs (λ same. other (sym same)) rest.0, rest.1)

-- one more id among others
pub apart_insert : (xs ys : List ℕ) (z : ℕ) → AreApart (xs ++ ys) → All (λ x. x ≢ z) xs → All (λ x. x ≢ z) ys
    → AreApart (xs ++ z ∷ ys)
apart_insert [] ys z apart left right = (right, apart)
apart_insert (x ∷ xs) ys z apart left right =
    let here : x ≢ z = All-head (λ y. y ≢ z) x xs left in (
      All-append (λ y. y ≢ x) xs (z ∷ ys) (all_left (λ y. y ≢ x) xs ys apart.0)
          (All-cons (λ y. y ≢ x) z ys (λ same. here (sym same)) (all_right (λ y. y ≢ x) xs ys apart.0)),
      apart_insert xs ys z apart.1 (All-tail (λ y. y ≢ z) x xs left) right,
    )

-- a fact of each id is one of each page
pub each_page : (P : ℕ → Type 0) (pages : List Page) → All P (ids_of pages) → All (λ p. P p.id) pages
each_page P [] all = All-nil (λ p. P p.id)
each_page P (p ∷ ps) all =
    All-cons (λ q. P q.id) p ps (All-head P p.id (ids_of ps) all)
    (each_page P ps (All-tail P p.id (ids_of ps) all))

pub each_id : (P : ℕ → Type 0) (pages : List Page) → All (λ p. P p.id) pages → All P (ids_of pages)
each_id P [] all = All-nil P
each_id P (p ∷ ps) all =
    All-cons P p.id (ids_of ps) (All-head (λ q. P q.id) p ps all)
    (each_id P ps (All-tail (λ q. P q.id) p ps all))

-- pages that are moved keep their ids
pub ids-moved : (by : ℕ) (pages : List Page) → ids_of (map (moved by) pages) ≡ ids_of pages
ids-moved by [] = refl
ids-moved by (p ∷ ps) = ap (λ ids. p.id ∷ ids) (ids-moved by ps)

-- ---- a pool that changes elsewhere

-- two pools have the same frames for these pages
abbrev pub Agree : List (Option Frame) → List (Option Frame) → List Page → Type 0
Agree pool new pages = All (λ p. frame_at new p.id ≡ frame_at pool p.id) pages

pub records-agree : (pool new : List (Option Frame)) (pages : List Page) → Agree pool new pages
    → page_records_of new pages ≡ page_records_of pool pages
records-agree pool new [] agree = refl
records-agree pool new (p ∷ ps) agree =
    ap₂ (λ xs ys. xs ++ ys) (ap records_at
    (All-head (λ q. frame_at new q.id ≡ frame_at pool q.id) p ps agree))
    (records-agree pool new ps (All-tail (λ q. frame_at new q.id ≡ frame_at pool q.id) p ps agree))

pub lengths-agree : (pool new : List (Option Frame)) (pages : List Page) → Agree pool new pages
    → lengths_of new pages ≡ lengths_of pool pages
lengths-agree pool new [] agree = refl
lengths-agree pool new (p ∷ ps) agree =
    ap₂ (λ n ns. n ∷ ns) (ap (λ o. length (records_at o))
    (All-head (λ q. frame_at new q.id ≡ frame_at pool q.id) p ps agree))
    (lengths-agree pool new ps (All-tail (λ q. frame_at new q.id ≡ frame_at pool q.id) p ps agree))

page_agrees : (pool new : List (Option Frame)) (place : ℕ) (p : Page) → frame_at new p.id ≡ frame_at pool p.id
    → IsPageAt pool place p → IsPageAt new place p
page_agrees pool new place p same at = record {
  frame = at.frame;
  there = same ∙ at.there;
  page = at.page;
  first = at.first;
  start = at.start;
  summary = at.summary;
}

pub pages_agree : (pool new : List (Option Frame)) (place : ℕ) (pages : List Page) → Agree pool new pages
    → ArePagesFrom pool place pages
    → ArePagesFrom new place pages
pages_agree pool new place [] agree each = tt
pages_agree pool new place (p ∷ ps) agree each =
    let here = All-head (λ q. frame_at new q.id ≡ frame_at pool q.id) p ps agree in
    let rest = pages_agree pool new (place + length (page_in pool p)) ps
    (All-tail (λ q. frame_at new q.id ≡ frame_at pool q.id) p ps agree) each.1 in (
      page_agrees pool new place p here each.0,
      subst (λ rs. ArePagesFrom new (place + length (records_at rs)) ps) (sym here) rest,
    )

-- another frame is written
pub agree_set : (pool : List (Option Frame)) (id : ℕ) (o : Option Frame) (pages : List Page)
    → All (λ p. p.id ≢ id) pages
    → Agree pool (set pool id o) pages
agree_set pool id o pages other k d within = get_or-set_other pool id (get_or pages k d).id o None
    (other k d within)

-- ---- parts of the pages

pub records-append : (pool : List (Option Frame)) (xs ys : List Page)
    → page_records_of pool (xs ++ ys) ≡ page_records_of pool xs ++ page_records_of pool ys
records-append pool xs ys = flat_map-append (page_in pool) xs ys

pub lengths-append : (pool : List (Option Frame)) (xs ys : List Page)
    → lengths_of pool (xs ++ ys) ≡ lengths_of pool xs ++ lengths_of pool ys
lengths-append pool xs ys = map-append (λ p. length (page_in pool p)) xs ys

pub pages_split : (pool : List (Option Frame)) (place : ℕ) (xs ys : List Page)
    → ArePagesFrom pool place (xs ++ ys)
    → ArePagesFrom pool place xs × ArePagesFrom pool (place + length (page_records_of pool xs)) ys
pages_split pool place [] ys each = (tt, rw add-zero each)
pages_split pool place (x ∷ xs) ys each =
    let rest = pages_split pool (place + length (page_in pool x)) xs ys each.1 in
    let place' : place + length (page_in pool x) + length (page_records_of pool xs) ≡ place + length
    (page_records_of pool (x ∷ xs)) =
    omega (arith, length-append (page_in pool x) (page_records_of pool xs)) in
    ((each.0, rest.0), subst (λ n. ArePagesFrom pool n ys) place' rest.1)

pub pages_join : (pool : List (Option Frame)) (place : ℕ) (xs ys : List Page) → ArePagesFrom pool place xs
    → ArePagesFrom pool (place + length (page_records_of pool xs)) ys → ArePagesFrom pool place (xs ++ ys)
pages_join pool place [] ys front back = rw add-zero at back
pages_join pool place (x ∷ xs) ys front back =
    let place' : place + length (page_records_of pool (x ∷ xs)) ≡ place + length (page_in pool x) + length
    (page_records_of pool xs) =
    omega (arith, length-append (page_in pool x) (page_records_of pool xs)) in (
      front.0,
      pages_join pool (place + length (page_in pool x)) xs ys front.1
          (subst (λ n. ArePagesFrom pool n ys) place' back),
    )

-- pages that are moved on
pub records-moved : (pool : List (Option Frame)) (by : ℕ) (pages : List Page)
    → page_records_of pool (map (moved by) pages) ≡ page_records_of pool pages
records-moved pool by [] = refl
records-moved pool by (p ∷ ps) = ap (λ rs. page_in pool p ++ rs) (records-moved pool by ps)

pub lengths-moved : (pool : List (Option Frame)) (by : ℕ) (pages : List Page)
    → lengths_of pool (map (moved by) pages) ≡ lengths_of pool pages
lengths-moved pool by [] = refl
lengths-moved pool by (p ∷ ps) = ap (λ ns. length (page_in pool p) ∷ ns) (lengths-moved pool by ps)

pub pages_moved : (pool : List (Option Frame)) (place by : ℕ) (pages : List Page)
    → ArePagesFrom pool place pages
    → ArePagesFrom pool (place + by) (map (moved by) pages)
pages_moved pool place by [] each = tt
pages_moved pool place by (p ∷ ps) each =
    let place' : place + length (page_in pool p) + by ≡ place + by + length (page_in pool p) = omega arith in (
      record {
        frame = each.0.frame;
        there = each.0.there;
        page = each.0.page;
        first = ap
            (λ n. n + by) each.0.first;
        start = each.0.start;
        summary = each.0.summary;
      },
      subst (λ n. ArePagesFrom pool n (map (moved by) ps)) place'
          (pages_moved pool (place + length (page_in pool p)) by ps each.1),
    )

-- the page at a place of the list, and those on both sides of it
pub pages_around : (pages : List Page) (k : ℕ) (d : Page) → k < length pages
    → pages ≡ take k pages ++ (get_or pages k d ∷ drop (k + 1) pages)
pages_around pages k d within = sym (take-append-drop k pages)
    ∙ ap (λ ps. take k pages ++ ps) (drop_more pages k d within)

pub records-around : (pool : List (Option Frame)) (pages : List Page) (k : ℕ) (d : Page) → k < length pages
    → page_records_of pool pages ≡ page_records_of pool (take k pages) ++
    (page_in pool (get_or pages k d) ++ page_records_of pool (drop (k + 1) pages))
records-around pool pages k d within =
    ap (page_records_of pool) (pages_around pages k d within) ∙ records-append pool (take k pages)
    (get_or pages k d ∷ drop (k + 1) pages)

pub lengths-around : (pool : List (Option Frame)) (pages : List Page) (k : ℕ) (d : Page) → k < length pages
    → lengths_of pool pages ≡ lengths_of pool (take k pages) ++
    (length (page_in pool (get_or pages k d)) ∷ lengths_of pool (drop (k + 1) pages))
lengths-around pool pages k d within =
    ap (lengths_of pool) (pages_around pages k d within) ∙ lengths-append pool (take k pages)
    (get_or pages k d ∷ drop (k + 1) pages)

pub page_at : (pool : List (Option Frame)) (pages : List Page) (k : ℕ) (d : Page) → k < length pages
    → ArePagesFrom pool 0 pages
    → IsPageAt pool (length (page_records_of pool (take k pages))) (get_or pages k d)
page_at pool pages k d within each =
    let parts = pages_split pool 0 (take k pages) (get_or pages k d ∷ drop (k + 1) pages)
    (subst (ArePagesFrom pool 0) (pages_around pages k d within) each) in
    rw zero-add at parts.1.0
