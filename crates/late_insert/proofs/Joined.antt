-- Summaries that are joined.
use Rattle.std.proofs.Common.{◌≡◌, ℕ, suc, ◌+◌, ◌-◌, ◌<◌, ◌≤◌, Bool, true, false, ℤ, pos, ◌+ℤ◌, List, [], ◌∷◌, ◌++◌, Option, map, append-nil, length, get_or, take, fold, All, refl, sym, ap, ◌∙◌, subst, arith, length-append}
use Rattle.std.specs.Prelude.{unsigned_abs, FitsSigned}
use Rattle.std.specs.Int.{int_min, int_max, w128}
use mir.Val.{of_z, to_z}
use Rattle.std.proofs.lemmas.Int.{ints, to_z-of_z, fits_signed_from_abs}
use Rattle.std.proofs.lemmas.List.{append_assoc, get_or_append_left, get_or-append-add, length-map, map-append}
use Rattle.std.proofs.lemmas.List.Sums.{fold_push, fold-append}
use Rattle.std.proofs.lemmas.List.Elements.{All-head, All-tail}
use Rattle.trend_num.specs.{Rec, Point}
use Rattle.page_pool.specs.{Frame}
use Rattle.trend_model.specs.{points_of, area, piece}
use Rattle.late_insert.specs.{Page, records_at, page_in, page_records_of, ArePagesFrom, IsPageAt, Summary, IsSmall, joined, joined_of, least_of, greatest_of, no_point, summary_of, page_most, pages_most, piece_most}
use Rattle.late_insert.proofs.Finding.{HasSome}
use Rattle.late_insert.proofs.Summaries.{summary_made}
use Rattle.late_insert.proofs.Areas.{piece_small}

-- ---- three areas

amount : (a b p q : ℤ) → unsigned_abs a ≤ pages_most 63 → unsigned_abs b ≤ page_most → p ≡ q → unsigned_abs q ≤ piece_most
    → unsigned_abs (a +ℤ b +ℤ p) ≤ pages_most 64
amount a b p q first second is third =
    let here : unsigned_abs p ≤ piece_most = subst (λ z. unsigned_abs z ≤ piece_most) (sym is) third in
    omega (arith, ints)

fits_one : (a : ℤ) → unsigned_abs a ≤ pages_most 64 → FitsSigned w128 a
fits_one a small = fits_signed_from_abs w128 a (omega (arith, small))

two_small : (a b : ℤ) → unsigned_abs a ≤ pages_most 63 → unsigned_abs b ≤ page_most → unsigned_abs (a +ℤ b) ≤ pages_most 64
two_small a b first second = omega (arith, ints)

pub three_fit : (a b p q : ℤ) → unsigned_abs a ≤ pages_most 63 → unsigned_abs b ≤ page_most → p ≡ q
    → unsigned_abs q ≤ piece_most
    → FitsSigned w128 (to_z w128 (of_z w128 (to_z w128 (of_z w128 a) +ℤ to_z w128 (of_z w128 b))) +ℤ to_z w128 (of_z w128 p))
three_fit a b p q first second is third =
    let here : unsigned_abs p ≤ piece_most = subst (λ z. unsigned_abs z ≤ piece_most) (sym is) third in
    rw (
      to_z-of_z w128 a (fits_one a (omega arith)),
      to_z-of_z w128 b (fits_one b (omega arith)),
      to_z-of_z w128 (a +ℤ b) (fits_one (a +ℤ b) (two_small a b first second)),
      to_z-of_z w128 p (fits_one p (omega arith)),
    )
    (fits_one (a +ℤ b +ℤ p) (amount a b p q first second is third))

pub three : (a b p q : ℤ) → unsigned_abs a ≤ pages_most 63 → unsigned_abs b ≤ page_most → p ≡ q
    → unsigned_abs q ≤ piece_most
    → to_z w128 (of_z w128 (to_z w128 (of_z w128 (to_z w128 (of_z w128 a) +ℤ to_z w128 (of_z w128 b))) +ℤ to_z w128 (of_z w128 p)))
    ≡ a +ℤ b +ℤ q
three a b p q first second is third =
    let here : unsigned_abs p ≤ piece_most = subst (λ z. unsigned_abs z ≤ piece_most) (sym is) third in
    rw (
      to_z-of_z w128 a (fits_one a (omega arith)),
      to_z-of_z w128 b (fits_one b (omega arith)),
      to_z-of_z w128 (a +ℤ b) (fits_one (a +ℤ b) (two_small a b first second)),
      to_z-of_z w128 p (fits_one p (omega arith)),
      to_z-of_z w128 (a +ℤ b +ℤ p) (fits_one (a +ℤ b +ℤ p) (amount a b p q first second is third)),
    )
    (ap (λ z. a +ℤ b +ℤ z) is)

-- ---- summaries

pub joined_made : (a b : Summary) (line stair low high : ℤ) → line ≡ a.line +ℤ b.line +ℤ piece false a.last b.first
    → stair ≡ a.stair +ℤ b.stair +ℤ piece true a.last b.first → low ≡ int_min a.low b.low → high ≡ int_max a.high b.high
    → record { first = a.first; last = b.last; line = line; stair = stair; low = low; high = high } ≡ joined a b
joined_made a b line stair low high c d e f = rw (c, d, e, f) refl

-- one page more
pub joined_small : (n : ℕ) (a b : Summary) → IsSmall (pages_most n) a → IsSmall page_most b
    → IsSmall (pages_most (n + 1)) (joined a b)
joined_small n a b first second = record {
  first = first.first;
  last = second.last;
  line = more a.line b.line (piece false a.last b.first) first.line second.line (piece_small false a.last b.first first.last second.first);
  stair = more a.stair b.stair (piece true a.last b.first) first.stair second.stair (piece_small true a.last b.first first.last second.first);
}
  where
    more : (x y p : ℤ) → unsigned_abs x ≤ pages_most n → unsigned_abs y ≤ page_most → unsigned_abs p ≤ piece_most
        → unsigned_abs (x +ℤ y +ℤ p) ≤ pages_most (n + 1)
    more x y p h i j = omega (arith, ints)

pub small_more : (n m : ℕ) (a : Summary) → n ≤ m → IsSmall n a → IsSmall m a
small_more n m a less small = record {
  first = small.first;
  last = small.last;
  line = omega (arith, small.line);
  stair = omega (arith, small.stair);
}

pub joined_push : (l : List Summary) (s : Summary) → 0 < length l → joined_of (l ++ s ∷ []) ≡ joined (joined_of l) s
joined_push [] s some = absurd (omega arith)
joined_push (x ∷ l) s some = fold_push joined x l s

pub joined_first : (l : List Summary) (d : Summary) → 0 < length l → joined_of (take 1 l) ≡ get_or l 0 d
joined_first [] d some = absurd (omega arith)
joined_first (x ∷ l) d some = refl

-- ---- points and those after them

area_join : (step : Bool) (xs ys : List Point) → 0 < length xs → 0 < length ys
    → area step (xs ++ ys) ≡ area step xs +ℤ area step ys +ℤ piece step (get_or xs (length xs - 1) no_point) (get_or ys 0 no_point)
area_join step [] ys some next = absurd (omega arith)
area_join step (x ∷ []) [] some next = absurd (omega arith)
area_join step (x ∷ []) (y ∷ ys) some next = alone (piece step x y) (area step (y ∷ ys))
  where
    alone : (p a : ℤ) → p +ℤ a ≡ pos 0 +ℤ a +ℤ p
    alone p a = omega (arith, ints)
area_join step (x ∷ z ∷ xs) ys some next =
    let place : suc (length (z ∷ xs) - 1) ≡ length (x ∷ z ∷ xs) - 1 = omega arith in
    ap (λ a. piece step x z +ℤ a) (area_join step (z ∷ xs) ys (omega arith) next)
    ∙ (around (piece step x z) (area step (z ∷ xs)) (area step ys)
    (piece step (get_or (z ∷ xs) (length (z ∷ xs) - 1) no_point) (get_or ys 0 no_point))
    ∙ ap (λ n. piece step x z +ℤ area step (z ∷ xs) +ℤ area step ys +ℤ piece step (get_or (x ∷ z ∷ xs) n no_point) (get_or ys 0 no_point)) place)
  where
    around : (p a b q : ℤ) → p +ℤ (a +ℤ b +ℤ q) ≡ p +ℤ a +ℤ b +ℤ q
    around p a b q = omega (arith, ints)

-- the least and the greatest of both
min_assoc : (a b c : ℤ) → int_min (int_min a b) c ≡ int_min a (int_min b c)
min_assoc a b c = grind (arith, ints)

max_assoc : (a b c : ℤ) → int_max (int_max a b) c ≡ int_max a (int_max b c)
max_assoc a b c = grind (arith, ints)

fold_least : (m a : ℤ) (ys : List Point) → fold (λ low (q : Point). int_min low q.v) (int_min m a) ys
    ≡ int_min m (fold (λ low (q : Point). int_min low q.v) a ys)
fold_least m a [] = refl
fold_least m a (y ∷ ys) =
    ap (λ n. fold (λ low (q : Point). int_min low q.v) n ys) (min_assoc m a y.v) ∙ fold_least m (int_min a y.v) ys

fold_greatest : (m a : ℤ) (ys : List Point) → fold (λ high (q : Point). int_max high q.v) (int_max m a) ys
    ≡ int_max m (fold (λ high (q : Point). int_max high q.v) a ys)
fold_greatest m a [] = refl
fold_greatest m a (y ∷ ys) =
    ap (λ n. fold (λ high (q : Point). int_max high q.v) n ys) (max_assoc m a y.v) ∙ fold_greatest m (int_max a y.v) ys

least_join : (xs ys : List Point) → 0 < length xs → 0 < length ys → least_of (xs ++ ys) ≡ int_min (least_of xs) (least_of ys)
least_join [] ys some next = absurd (omega arith)
least_join (x ∷ xs) [] some next = absurd (omega arith)
least_join (x ∷ xs) (y ∷ ys) some next =
    fold-append (λ low (q : Point). int_min low q.v) x.v xs (y ∷ ys)
    ∙ fold_least (fold (λ low (q : Point). int_min low q.v) x.v xs) y.v ys

greatest_join : (xs ys : List Point) → 0 < length xs → 0 < length ys
    → greatest_of (xs ++ ys) ≡ int_max (greatest_of xs) (greatest_of ys)
greatest_join [] ys some next = absurd (omega arith)
greatest_join (x ∷ xs) [] some next = absurd (omega arith)
greatest_join (x ∷ xs) (y ∷ ys) some next =
    fold-append (λ high (q : Point). int_max high q.v) x.v xs (y ∷ ys)
    ∙ fold_greatest (fold (λ high (q : Point). int_max high q.v) x.v xs) y.v ys

pub summary_join : (xs ys : List Point) → 0 < length xs → 0 < length ys
    → joined (summary_of xs) (summary_of ys) ≡ summary_of (xs ++ ys)
summary_join xs ys some next =
    let long = length-append xs ys in
    let place : length (xs ++ ys) - 1 ≡ length xs + (length ys - 1) = omega arith in
    summary_made (xs ++ ys) _ _ _ _ _ _
    (sym (get_or_append_left xs ys no_point 0 some))
    (sym (ap (λ n. get_or (xs ++ ys) n no_point) place ∙ get_or-append-add xs ys (length ys - 1) no_point))
    (sym (area_join false xs ys some next)) (sym (area_join true xs ys some next))
    (sym (least_join xs ys some next)) (sym (greatest_join xs ys some next))

-- ---- pages one after another

page_is : (pool : List (Option Frame)) (place : ℕ) (p : Page) → IsPageAt pool place p → p.summary ≡ summary_of (points_of (page_in pool p))
page_is pool place p at = at.summary ∙ ap (λ l. summary_of (points_of l)) (sym (ap records_at at.there))

pub pages_after : (pool : List (Option Frame)) (place : ℕ) (pages : List Page) (xs : List Point) → 0 < length xs
    → ArePagesFrom pool place pages → All (HasSome pool) pages
    → fold joined (summary_of xs) (map (λ p. p.summary) pages) ≡ summary_of (xs ++ points_of (page_records_of pool pages))
pages_after pool place [] xs some each filled = ap summary_of (sym (append-nil xs))
pages_after pool place (p ∷ ps) xs some each filled =
    let ys = points_of (page_in pool p) in
    let next : 0 < length ys =
    omega (arith, All-head (HasSome pool) p ps filled, length-map (page_in pool p) (λ (r : Rec). r.point)) in
    let here = ap (joined (summary_of xs)) (page_is pool place p each.0) ∙ summary_join xs ys some next in
    ap (λ s. fold joined s (map (λ (q : Page). q.summary) ps)) here
    ∙ (pages_after pool (place + length (page_in pool p)) ps (xs ++ ys) (omega (arith, some, length-append xs ys)) each.1
    (All-tail (HasSome pool) p ps filled)
    ∙ ap summary_of (append_assoc xs ys (points_of (page_records_of pool ps))
    ∙ ap (λ l. xs ++ l) (sym (map-append (λ (r : Rec). r.point) (page_in pool p) (page_records_of pool ps)))))

pub pages_joined : (pool : List (Option Frame)) (place : ℕ) (pages : List Page) → 0 < length pages
    → ArePagesFrom pool place pages → All (HasSome pool) pages
    → joined_of (map (λ p. p.summary) pages) ≡ summary_of (points_of (page_records_of pool pages))
pages_joined pool place [] some each filled = absurd (omega arith)
pages_joined pool place (p ∷ ps) some each filled =
    let ys = points_of (page_in pool p) in
    let here : 0 < length ys =
    omega (arith, All-head (HasSome pool) p ps filled, length-map (page_in pool p) (λ (r : Rec). r.point)) in
    ap (λ s. fold joined s (map (λ (q : Page). q.summary) ps)) (page_is pool place p each.0)
    ∙ (pages_after pool (place + length (page_in pool p)) ps ys here each.1 (All-tail (HasSome pool) p ps filled)
    ∙ ap summary_of (sym (map-append (λ (r : Rec). r.point) (page_in pool p) (page_records_of pool ps))))
