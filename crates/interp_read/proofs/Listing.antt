-- Points from one time to another, by their places.
use Rattle.std.proofs.Common.{◌≡◌, ℕ, ◌+◌, ◌-◌, ◌^◌, ◌<◌, ◌≤◌, inl, inr, Bool, true, false, nat_le, List, [], ◌∷◌, ◌++◌, All, length, take, drop, min, refl, sym, ap, ap₂, ◌∙◌, subst, arith, append-nil}
use Rattle.std.specs.Prelude.{◌&&◌, count_by, nat_lt, slice_range}
use Rattle.std.specs.List.{filter}
use Rattle.std.proofs.lemmas.Bool.{cases_lt, and_left, and_right, le-leb, lt-leb}
use Rattle.std.proofs.lemmas.List.{drop-drop, length-append, length-map, length-take, take-append-drop, take-append-le, take-take, take_all}
use Rattle.std.proofs.lemmas.List.Edits.{length-between}
use Rattle.std.proofs.lemmas.List.Elements.{All-drop, All-head, All-tail, All-take, All-weaker, filter-append}
use Rattle.std.proofs.lemmas.Slice.{between_is}
use Rattle.trend_num.specs.{Rec, Point, InRange}
use Rattle.trend_model.specs.{IsRising, points_of, points_from_to}
use Rattle.trend_model.proofs.ReadLaw.{points_rise}
use Rattle.interp_read.proofs.RisingPoints.{Before, From, IsGapAt, gap_at}

-- ---- a filter that keeps places one after another

kept_none : (f : Point → Bool) (ps : List Point) → All (λ p. f p ≡ false) ps → filter f ps ≡ []
kept_none f [] fails = refl
kept_none f (p ∷ ps) fails =
    let Fails : Point → Type 0 = λ x. f x ≡ false in
    rw (All-head Fails p ps fails) (kept_none f ps (All-tail Fails p ps fails))

kept_all : (f : Point → Bool) (ps : List Point) → All (λ p. f p ≡ true) ps → filter f ps ≡ ps
kept_all f [] passes = refl
kept_all f (p ∷ ps) passes =
    let Passes : Point → Type 0 = λ x. f x ≡ true in
    rw (All-head Passes p ps passes) (ap (λ l. p ∷ l) (kept_all f ps (All-tail Passes p ps passes)))

-- a filter keeps the middle of a list, where all before and after fails
pub kept_middle : (f : Point → Bool) (ps : List Point) (a b : ℕ) → All (λ p. f p ≡ false) (take a ps)
    → All (λ p. f p ≡ false) (drop b ps)
    → All (λ p. f p ≡ true) (slice_range ps a b) → filter f ps ≡ slice_range ps a b
kept_middle f ps a b first last middle =
    let Fails : Point → Type 0 = λ p. f p ≡ false in
    elim (cases_lt b a) [
      | inl none ↦
          let gap : drop (a - b) (drop b ps) ≡ drop a ps = grind (arith, drop-drop) in
          let rest : All Fails (drop a ps) = subst (All Fails) gap
          (All-drop Fails (a - b) (drop b ps) last) in
          let empty : b - a ≡ 0 = omega arith in
          ap (filter f) (sym (take-append-drop a ps)) ∙ (grind (arith, filter-append, kept_none))
      | inr some ↦
          let front : take b ps ≡ take a ps ++ slice_range ps a b =
          sym (take-append-drop a (take b ps)) ∙ ap₂ (λ l m. l ++ m) (take-take a b ps some)
          (sym (between_is ps a b)) in
          let kept : filter f (take b ps) ≡ slice_range ps a b =
          grind (arith, filter-append, kept_none, kept_all) in
          ap (filter f) (sym (take-append-drop b ps)) ∙ (grind (arith, filter-append, kept_none, append-nil))
    ]

-- the points of a content from one time to another are those between the two places that it counts
pub listed_places : (l : List Rec) (from to after a b : ℕ) → IsRising l → All (λ p. InRange p) (points_of l)
    → after ≡ min (to + 1) (2 ^ 64 - 1) → a ≡ count_by (λ r. nat_lt r.point.t from) l
    → b ≡ count_by (λ r. nat_lt r.point.t after) l
    → (points_from_to (points_of l) from to ≡ slice_range (points_of l) a b) × (b ≤ length l)
listed_places l from to after a b rises range is first second =
    let ps = points_of l in
    let f : Point → Bool = λ p. nat_le from p.t && nat_le p.t to in
    let start : IsGapAt ps from a = rw first (gap_at from l (points_rise l rises)) in
    let end : IsGapAt ps after b = rw second (gap_at after l (points_rise l rises)) in
    let early = All-weaker (Before from) (λ p. f p ≡ false)
    (λ p h. and_left (nat_le from p.t) (nat_le p.t to) (lt-leb from p.t h)) (take a ps) start.before in
    let behind = both_all (From after) (λ p. InRange p) (drop b ps) end.from
    (All-drop (λ p. InRange p) b ps range) in
    let late = All-weaker (λ p. From after p × InRange p) (λ p. f p ≡ false)
    (λ p h. grind (arith, and_right, lt-leb))
    (drop b ps) behind in
    let middle_from = All-take (From from) (b - a) (drop a ps) start.from in
    let middle_before : All (Before after) (slice_range ps a b) =
    rw (between_is ps a b) (All-drop (Before after) a (take b ps) end.before) in
    let middle = All-weaker (λ p. From from p × Before after p) (λ p. f p ≡ true)
    (λ p h. rw (le-leb from p.t h.0, le-leb p.t to (let u = h.1 in omega arith)) refl)
    (slice_range ps a b) (both_all (From from) (Before after) (slice_range ps a b) middle_from middle_before)
    in
    (kept_middle f ps a b early late middle, omega (arith, end.within, length-map l (λ r. r.point)))
  where
    both_all : (P Q : Point → Type 0) (qs : List Point) → All P qs → All Q qs → All (λ p. P p × Q p) qs
    both_all P Q qs p q = λ k d within. (p k d within, q k d within)

-- ---- the first of points and of one more

-- points of which all are taken
pub all_taken : (all first : List Point) (m : ℕ) → first ≡ take m all → length first < m → first ≡ all
all_taken all first m is few = grind (arith, length-take, take_all)

-- with one more, they are still all taken
pub taken_more : (all first : List Point) (q : Point) (m : ℕ) → first ≡ take m all → length first < m
    → (first ++ q ∷ [] ≡ take m (all ++ q ∷ [])) × (length (all ++ q ∷ []) ≤ m)
taken_more all first q m is few = grind (arith, all_taken, length-append, take_all)

-- points of which some are left, or just all were taken
pub taken_before : (all first : List Point) (q : Point) (m : ℕ) → first ≡ take m all → m ≤ length first
    → (first ≡ take m (all ++ q ∷ [])) × (m < length (all ++ q ∷ []))
taken_before all first q m is many = grind (arith, length-take, take-append-le, length-append)

-- ---- the places that are copied

-- the first points of a range, up to a place that is no further than that
pub copied_first : (ps : List Point) (start end stop m : ℕ) → stop ≡ min end (min (start + m) (2 ^ 32 - 1))
    → end ≤ 2 ^ 32 - 1
    → slice_range ps start stop ≡ take m (slice_range ps start end)
copied_first ps start end stop m at few = grind (arith, take-take, length-take, take_all)

-- some are left exactly where the range has more
pub left_over : (ps : List Point) (start end stop m : ℕ) → stop ≡ min end (min (start + m) (2 ^ 32 - 1))
    → end ≤ 2 ^ 32 - 1
    → end ≤ length ps → (stop < end → m < length (slice_range ps start end)) ×
    (m < length (slice_range ps start end) → stop < end)
left_over ps start end stop m at few within = grind (arith, length-between)
