-- A walk over the points of a window, in runs.
use Rattle.std.proofs.Common.{◌≡◌, ℕ, ◌-◌, ◌*◌, ◌<◌, ◌≤◌, ℤ, ◌+ℤ◌, Bool, List, [], ◌∷◌, ◌++◌, Some, All, length, refl, sym, ap, ap₂, ◌∙◌, subst, arith, append_assoc, append-nil}
use Rattle.std.specs.Prelude.{drop, slice_get, slice_range, unsigned_abs}
use Rattle.std.proofs.lemmas.List.Elements.{All-cons, All-drop, All-take}
use Rattle.trend_num.specs.{Rec, Point, InRange, largest_value, last_time}
use Rattle.trend_model.specs.{points_of, RisesAfter, last_point, area, greater, greatest_from, last_from, least_from, lesser, piece}
use Rattle.late_insert.specs.{greatest_of, least_of}
use Rattle.late_insert.proofs.Joining.{all_left, all_right}
use Rattle.interp_read.proofs.RisingPoints.{first_parts}
use Rattle.weighted_total.proofs.Sums.{area_joined, area_small, greatest_joined, greatest_of_is, last_joined, least_joined, least_of_is}

-- the last of some points
pub last_is : (p : Point) (rest : List Point) → last_point (p ∷ rest) ≡ Some (last_from p rest)
last_is p [] = refl
last_is p (x ∷ rest) = last_is x rest

-- ---- points that rise

pub rises_front : (p : Point) (xs ys : List Point) → RisesAfter p (xs ++ ys) → RisesAfter p xs
rises_front p [] ys rises = tt
rises_front p (x ∷ xs) ys rises = (rises.0, rises_front x xs ys rises.1)

pub rises_seam : (p : Point) (xs : List Point) (q : Point) (ys : List Point) → RisesAfter p (xs ++ q ∷ ys)
    → (last_from p xs).t < q.t
rises_seam p [] q ys rises = rises.0
rises_seam p (x ∷ xs) q ys rises = rises_seam x xs q ys rises.1

rises_back : (p : Point) (xs : List Point) (q : Point) (ys : List Point) → RisesAfter p (xs ++ q ∷ ys)
    → RisesAfter q ys
rises_back p [] q ys rises = rises.1
rises_back p (x ∷ xs) q ys rises = rises_back x xs q ys rises.1

-- ---- what was taken of a range

-- the range is what was taken, and the rest
pub record IsTaken (inner taken rest : List Point) : Type 0 where
  pub parts : inner ≡ taken ++ rest

-- nothing was taken yet
pub taken_none : (inner rest : List Point) → rest ≡ inner → IsTaken inner [] rest
taken_none inner rest is = record { parts = sym is }

-- and in the end all
pub taken_all : (inner taken rest : List Point) → IsTaken inner taken rest → rest ≡ [] → taken ≡ inner
taken_all inner taken rest is none = sym (append-nil taken) ∙ (ap (λ l. taken ++ l) (sym none) ∙ sym is.parts)

-- a run more
pub taken_more : (inner taken old run new : List Point) → IsTaken inner taken old → old ≡ run ++ new
    → IsTaken inner (taken ++ run) new
taken_more inner taken old run new is split = grind (arith, append_assoc)

-- the points of a range are in range
pub inner_range : (l : List Rec) (first behind : ℕ) → All InRange (points_of l)
    → All (λ p. InRange p) (slice_range (points_of l) first behind)
inner_range l first behind range =
    let In : Point → Type 0 = λ p. InRange p in
    All-take In (behind - first) (drop first (points_of l)) (All-drop In first (points_of l) range)

-- the sums over the start and what was taken
pub record IsWalked (step : Bool) (start : Point) (inner rest : List Point) (twice : ℤ) (last : Point) : Type
    0 where
  pub taken : List Point
  pub is : IsTaken inner taken rest
  pub twice_is : twice ≡ area step (start ∷ taken)
  pub last_is : last ≡ last_from start taken

-- a run from its first point to its last
pub record IsRunOf (old run new : List Point) (q z : Point) : Type 0 where
  pub split : old ≡ run ++ new
  pub first : slice_get run 0 ≡ Some q
  pub last : last_point run ≡ Some z

-- the seam and the sums of a step of a walk
pub record IsStep (step : Bool) (last q : Point) (twice part : ℤ) : Type 0 where
  pub order : last.t ≤ q.t
  pub small : unsigned_abs twice ≤ last_time * (2 * largest_value)
  pub small_part : unsigned_abs part ≤ last_time * (2 * largest_value)

module _ (step : Bool) (start : Point) (inner old run new : List Point) (twice : ℤ) (last q z : Point)
    (walk : IsWalked step start inner old twice last) (next : IsRunOf old run new q z) where
  -- the run, by its first point
  run_parts : (more : List Point) × (run ≡ q ∷ more)
  run_parts = first_parts run q next.first

  after : IsTaken inner (walk.taken ++ run) new
  after = taken_more inner walk.taken old run new walk.is next.split

  pub walk_step : InRange start → All (λ p. InRange p) inner → RisesAfter start inner
      → IsStep step last q twice (area step run)
  walk_step in_range range rises =
      let In : Point → Type 0 = λ p. InRange p in
      let more = run_parts.0 in
      let xs = walk.taken in
      let whole : inner ≡ (xs ++ q ∷ more) ++ new = after.parts ∙ ap (λ l. (xs ++ l) ++ new) run_parts.1 in
      let upto : RisesAfter start (xs ++ q ∷ more) = grind (arith, rises_front) in
      let all : All In (xs ++ q ∷ more) = all_left In (xs ++ q ∷ more) new (subst (All In) whole range) in
      let seam = rises_seam start xs q more upto in
      record {
        order = rw walk.last_is (omega arith);
        small = rw walk.twice_is
            (area_small step start xs (rises_front start xs (q ∷ more) upto)
            (All-cons In start xs in_range (all_left In xs (q ∷ more) all)));
        small_part = rw run_parts.1 (area_small step q more (rises_back start xs q more upto)
            (all_right In xs (q ∷ more) all));
      }

  pub walk_more : (sum : ℤ) → sum ≡ (twice +ℤ piece step last q) +ℤ area step run
      → IsWalked step start inner new sum z
  walk_more sum is =
      let more = run_parts.0 in
      let xs = walk.taken in
      let ends : Some z ≡ Some (last_from q more) = grind (arith, last_is) in
      let end : z ≡ last_from q more = cc in
      record {
        taken = xs ++ run;
        is = after;
        twice_is = is
            ∙ (ap₂ (λ a b. a +ℤ b) (ap₂ (λ a x. a +ℤ piece step x q) walk.twice_is walk.last_is)
            (ap (area step) run_parts.1)
            ∙ (sym (area_joined step start xs q more) ∙ ap (λ l. area step (start ∷ (xs ++ l)))
            (sym run_parts.1)));
        last_is = end ∙ (sym (last_joined start xs q more) ∙ ap (λ l. last_from start (xs ++ l))
            (sym run_parts.1));
      }

-- the sums of all
pub walk_all : (step : Bool) (start : Point) (inner rest : List Point) (twice : ℤ) (last : Point)
    → IsWalked step start inner rest twice last
    → rest ≡ [] → (twice ≡ area step (start ∷ inner)) × (last ≡ last_from start inner)
walk_all step start inner rest twice last walk none =
    let all = taken_all inner walk.taken rest walk.is none in
    (walk.twice_is ∙ ap (λ l. area step (start ∷ l)) all, walk.last_is ∙ ap (last_from start) all)

-- the least and the greatest value of the start and what was taken
pub record IsSpread (start : Point) (inner rest : List Point) (low high : ℤ) : Type 0 where
  pub taken : List Point
  pub is : IsTaken inner taken rest
  pub low_is : low ≡ least_from start taken
  pub high_is : high ≡ greatest_from start taken

pub spread_more : (start : Point) (inner old run new : List Point) (low high a b : ℤ)
    → IsSpread start inner old low high → old ≡ run ++ new
    → 0 < length run → a ≡ lesser low (least_of run) → b ≡ greater high (greatest_of run)
    → IsSpread start inner new a b
spread_more start inner old [] new low high a b spread split some lows highs = absurd (omega arith)
spread_more start inner old (q ∷ more) new low high a b spread split some lows highs = record {
  taken = spread.taken ++ q ∷ more;
  is = taken_more inner spread.taken old (q ∷ more) new spread.is split;
  low_is = lows ∙ (ap₂ lesser spread.low_is (least_of_is q more)
      ∙ sym (least_joined start spread.taken q more));
  high_is = highs ∙ (ap₂ greater spread.high_is (greatest_of_is q more)
      ∙ sym (greatest_joined start spread.taken q more));
}

pub spread_all : (start : Point) (inner rest : List Point) (low high : ℤ) → IsSpread start inner rest low high
    → rest ≡ []
    → (low ≡ least_from start inner) × (high ≡ greatest_from start inner)
spread_all start inner rest low high spread none =
    let all = taken_all inner spread.taken rest spread.is none in
    (spread.low_is ∙ ap (least_from start) all, spread.high_is ∙ ap (greatest_from start) all)
