-- A record that is put into a content, and the windows that do not meet its stretch.
use Rattle.std.proofs.Common.{◌≡◌, ℕ, ◌+◌, ◌<◌, ◌≤◌, inl, inr, Bool, false, nat_lt, nat_le, List, [], ◌∷◌, ◌++◌, All, refl, sym, ap, ◌∙◌, subst, arith, append_assoc, append-nil}
use Rattle.std.specs.Prelude.{◌&&◌, filter}
use Rattle.std.proofs.lemmas.Bool.{cases_lt, lt-ltb, le-ltb}
use Rattle.std.proofs.lemmas.Bool.Decides.{nat_tests}
use Rattle.std.proofs.lemmas.List.{map-append}
use Rattle.std.proofs.lemmas.List.Elements.{All-nil, All-cons, All-head, All-tail}
use Rattle.trend_num.specs.{Rec, Measure}
use Rattle.trend_model.specs.{IsRising, placed, points_of, IsAmong, PointsRise, is_covered, last_time_from, window_value}
use Rattle.trend_model.proofs.Placing.{time, AllBefore, AllAfter, all_placed, placed_behind, placed_before, rising_head, rising_placed, rising_tail}
use Rattle.trend_model.proofs.ReadLaw.{points_rise}
use Rattle.sheet_law.specs.{first_or, last_or, stretch_from, stretch_to, times_of}
use Rattle.sheet_law.proofs.Alike.{alike_on, alike_upto, uncovered, window_alike}

-- each of these records is at t or after it
abbrev AllFrom : ℕ → List Rec → Type 0
AllFrom t l = All (λ x. t ≤ time x) l

-- a list in two parts: what is before a time, and what is not
pub record Parts (l : List Rec) (t : ℕ) : Type 0 where
  pub front : List Rec
  pub back : List Rec
  pub whole : l ≡ front ++ back
  pub before : AllBefore front t
  pub after : AllFrom t back

-- a rising list has two parts at every time
pub parted_at : (l : List Rec) (t : ℕ) → IsRising l → Parts l t
parted_at [] t rises = record {
  front = [];
  back = [];
  whole = refl;
  before = All-nil (λ x. time x < t);
  after = All-nil (λ x. t ≤ time x);
}
parted_at (x ∷ l) t rises =
    elim (cases_lt (time x) t) [
      | inl before ↦
          let rest = parted_at l t (rising_tail x l rises) in
          record {
            front = x ∷ rest.front;
            back = rest.back;
            whole = ap (λ m. x ∷ m) rest.whole;
            before = All-cons (λ y. time y < t) x rest.front before rest.before;
            after = rest.after;
          }
      | inr after ↦ record {
        front = [];
        back = x ∷ l;
        whole = refl;
        before = All-nil (λ y. time y < t);
        after = All-cons (λ y. t ≤ time y) x l after (λ k d within. let h = rising_head x l rises k d within in omega arith);
      }
    ]

-- a list is empty, or has a last record
record Ends (xs : List Rec) : Type 0 where
  front : List Rec
  last : Rec
  whole : xs ≡ front ++ last ∷ []

ends_of : (x : Rec) (xs : List Rec) → Ends (x ∷ xs)
ends_of x [] = record { front = []; last = x; whole = refl }
ends_of x (y ∷ xs) =
    let rest = ends_of y xs in
    record { front = x ∷ rest.front; last = rest.last; whole = ap (λ l. x ∷ l) rest.whole }

-- ---- where a stretch ends

-- the times before t are those of the first part
times_before : (xs ys : List Rec) (t : ℕ) → AllBefore xs t → AllFrom t ys
    → filter (λ n. nat_lt n t) (times_of (xs ++ ys)) ≡ times_of xs
times_before [] [] t before after = refl
times_before [] (y ∷ ys) t before after =
    let head : t ≤ time y = All-head (λ x. t ≤ time x) y ys after in
    rw (le-ltb (time y) t head)
    (times_before [] ys t before (All-tail (λ x. t ≤ time x) y ys after))
times_before (x ∷ xs) ys t before after =
    let head : time x < t = All-head (λ y. time y < t) x xs before in
    rw (lt-ltb (time x) t head)
    (ap (λ l. time x ∷ l) (times_before xs ys t (All-tail (λ y. time y < t) x xs before) after))

-- and those after t the ones of the second part
times_after : (xs ys : List Rec) (t : ℕ) → AllBefore xs (t + 1) → AllFrom (t + 1) ys
    → filter (λ n. nat_lt t n) (times_of (xs ++ ys)) ≡ times_of ys
times_after [] [] t before after = refl
times_after [] (y ∷ ys) t before after =
    let head : t + 1 ≤ time y = All-head (λ x. t + 1 ≤ time x) y ys after in
    rw (lt-ltb t (time y) (omega arith))
    (ap (λ l. time y ∷ l) (times_after [] ys t before (All-tail (λ x. t + 1 ≤ time x) y ys after)))
times_after (x ∷ xs) ys t before after =
    let head : time x < t + 1 = All-head (λ y. time y < t + 1) x xs before in
    rw (le-ltb t (time x) (omega arith)) (times_after xs ys t (All-tail (λ y. time y < t + 1) x xs before) after)

last_push : (d : ℕ) (front : List Rec) (p : Rec) → last_or d (times_of (front ++ p ∷ [])) ≡ time p
last_push d [] p = refl
last_push d (x ∷ front) p = last_push (time x) front p

-- ---- windows before a stretch

-- points that are all at a time or after it
starts_late : (l : List Rec) (from to t : ℕ) → from < t → AllFrom t l → is_covered (points_of l) from to ≡ false
starts_late [] from to t low after = refl
starts_late (x ∷ l) from to t low after =
    let head : t ≤ time x = All-head (λ y. t ≤ time y) x l after in
    late (nat_le to (last_time_from x.point (points_of l)))
  where
    late : (b : Bool) → (nat_le x.point.t from && b) ≡ false
    late b = let head : t ≤ time x = All-head (λ y. t ≤ time y) x l after in grind (arith, nat_tests)

-- a window up to the stretch of a record stays
pub keeps_before : (step : Bool) (m : Measure) (r : Rec) (l : List Rec) (from to : ℕ) → IsRising l → from < to
    → to ≤ stretch_from l (time r)
    → window_value step m (points_of (placed r l)) from to ≡ window_value step m (points_of l) from to
keeps_before step m r l from to rises some upto =
    by_parts (parts.front) (parts.back) parts.whole parts.before parts.after
  where
    parts : Parts l (time r)
    parts = parted_at l (time r) rises

    both_bare : AllFrom (time r) l → to ≤ time r
        → window_value step m (points_of (placed r l)) from to ≡ window_value step m (points_of l) from to
    both_bare after low =
        uncovered step m (points_of (placed r l)) from to
        (starts_late (placed r l) from to (time r) (omega arith)
        (all_placed (λ u. time r ≤ u) r l (omega arith) after))
        ∙ sym (uncovered step m (points_of l) from to (starts_late l from to (time r) (omega arith) after))

    at_last : (front : List Rec) (p : Rec) (ys : List Rec) → l ≡ front ++ p ∷ ys → AllBefore (front ++ p ∷ []) (time r)
        → to ≤ time p
        → window_value step m (points_of (placed r l)) from to ≡ window_value step m (points_of l) from to
    at_last front p ys whole before low =
        let placed_is : placed r l ≡ front ++ p ∷ placed r ys =
        ap (placed r) (whole ∙ sym (append_assoc front (p ∷ []) ys))
        ∙ (placed_behind r (front ++ p ∷ []) ys before ∙ append_assoc front (p ∷ []) (placed r ys)) in
        let old_points : points_of l ≡ points_of front ++ p.point ∷ points_of ys =
        ap points_of whole ∙ map-append (λ x. x.point) front (p ∷ ys) in
        let new_points : points_of (placed r l) ≡ points_of front ++ p.point ∷ points_of (placed r ys) =
        ap points_of placed_is ∙ map-append (λ x. x.point) front (p ∷ placed r ys) in
        let old_rise = subst PointsRise old_points (points_rise l rises) in
        let new_rise = subst PointsRise new_points (points_rise (placed r l) (rising_placed r l rises)) in
        ap (λ ps. window_value step m ps from to) new_points
        ∙ (grind (arith, window_alike, alike_upto))

    by_parts : (front back : List Rec) → l ≡ front ++ back → AllBefore front (time r) → AllFrom (time r) back
        → window_value step m (points_of (placed r l)) from to ≡ window_value step m (points_of l) from to
    by_parts [] back whole before after =
        let none : stretch_from l (time r) ≡ time r =
        ap (λ k. stretch_from k (time r)) whole ∙ ap (last_or (time r)) (times_before [] back (time r) before after) in
        both_bare (subst (AllFrom (time r)) (sym whole) after) (omega arith)
    by_parts (x ∷ front) back whole before after =
        let ends = ends_of x front in
        let there : stretch_from l (time r) ≡ time ends.last =
        ap (λ k. stretch_from k (time r)) whole
        ∙ (ap (last_or (time r)) (times_before (x ∷ front) back (time r) before after)
        ∙ (ap (λ k. last_or (time r) (times_of k)) ends.whole ∙ last_push (time r) ends.front ends.last)) in
        at_last ends.front ends.last back
        (whole ∙ (ap (λ k. k ++ back) ends.whole ∙ append_assoc ends.front (ends.last ∷ []) back))
        (subst (λ k. AllBefore k (time r)) ends.whole before) (omega arith)

-- ---- windows after a stretch

-- points that are all at a time or before it
ends_early : (x : Rec) (l : List Rec) (from to t : ℕ) → t < to → All (λ y. time y ≤ t) (x ∷ l)
    → is_covered (points_of (x ∷ l)) from to ≡ false
ends_early x l from to t high before =
    last_early x l before
  where
    last_low : (x : Rec) (l : List Rec) → All (λ y. time y ≤ t) (x ∷ l) → last_time_from x.point (points_of l) ≤ t
    last_low x [] each = All-head (λ y. time y ≤ t) x [] each
    last_low x (y ∷ l) each = last_low y l (All-tail (λ z. time z ≤ t) x (y ∷ l) each)

    last_early : (x : Rec) (l : List Rec) → All (λ y. time y ≤ t) (x ∷ l) → is_covered (points_of (x ∷ l)) from to ≡ false
    last_early x l each = let low = last_low x l each in grind (arith, nat_tests)

covered_nowhere : (l : List Rec) (from to t : ℕ) → t < to → All (λ y. time y ≤ t) l
    → is_covered (points_of l) from to ≡ false
covered_nowhere [] from to t high before = refl
covered_nowhere (x ∷ l) from to t high before = ends_early x l from to t high before

-- a window from the stretch of a record on stays
pub keeps_after : (step : Bool) (m : Measure) (r : Rec) (l : List Rec) (from to : ℕ) → IsRising l → from < to
    → stretch_to l (time r) ≤ from
    → window_value step m (points_of (placed r l)) from to ≡ window_value step m (points_of l) from to
keeps_after step m r l from to rises some on =
    by_parts (parts.front) (parts.back) parts.whole parts.before parts.after
  where
    parts : Parts l (time r + 1)
    parts = parted_at l (time r + 1) rises

    both_bare : All (λ y. time y ≤ time r) l → time r ≤ from
        → window_value step m (points_of (placed r l)) from to ≡ window_value step m (points_of l) from to
    both_bare before low =
        uncovered step m (points_of (placed r l)) from to
        (covered_nowhere (placed r l) from to (time r) (omega arith)
        (all_placed (λ u. u ≤ time r) r l (omega arith) before))
        ∙ sym (uncovered step m (points_of l) from to (covered_nowhere l from to (time r) (omega arith) before))

    at_first : (front : List Rec) (q : Rec) (ys : List Rec) → l ≡ front ++ q ∷ ys → AllAfter (time r) (q ∷ ys)
        → time q ≤ from
        → window_value step m (points_of (placed r l)) from to ≡ window_value step m (points_of l) from to
    at_first front q ys whole after low =
        let placed_is : placed r l ≡ placed r front ++ q ∷ ys =
        ap (placed r) whole ∙ placed_before r front (q ∷ ys) after in
        let old_points : points_of l ≡ points_of front ++ q.point ∷ points_of ys =
        ap points_of whole ∙ map-append (λ x. x.point) front (q ∷ ys) in
        let new_points : points_of (placed r l) ≡ points_of (placed r front) ++ q.point ∷ points_of ys =
        ap points_of placed_is ∙ map-append (λ x. x.point) (placed r front) (q ∷ ys) in
        let old_rise = subst PointsRise old_points (points_rise l rises) in
        let new_rise = subst PointsRise new_points (points_rise (placed r l) (rising_placed r l rises)) in
        ap (λ ps. window_value step m ps from to) new_points
        ∙ (grind (arith, window_alike, alike_on))

    by_parts : (front back : List Rec) → l ≡ front ++ back → AllBefore front (time r + 1) → AllFrom (time r + 1) back
        → window_value step m (points_of (placed r l)) from to ≡ window_value step m (points_of l) from to
    by_parts front [] whole before after =
        let none : stretch_to l (time r) ≡ time r =
        ap (λ k. stretch_to k (time r)) whole ∙ ap (first_or (time r)) (times_after front [] (time r) before after) in
        let low : All (λ y. time y ≤ time r) front = λ k d within. let h = before k d within in omega arith in
        both_bare (subst (All (λ y. time y ≤ time r)) (sym (whole ∙ append-nil front)) low) (omega arith)
    by_parts front (q ∷ ys) whole before after =
        let there : stretch_to l (time r) ≡ time q =
        ap (λ k. stretch_to k (time r)) whole
        ∙ ap (first_or (time r)) (times_after front (q ∷ ys) (time r) before after) in
        let high : AllAfter (time r) (q ∷ ys) = λ k d within. let h = after k d within in omega arith in
        at_first front q ys whole high (omega arith)

-- ---- what is before a time

-- what is not before a time has no last time before it either
low_from : (u t e : ℕ) (l : List Rec) → u ≤ e → All (λ x. u ≤ time x) l
    → u ≤ last_or e (filter (λ n. nat_lt n t) (times_of l))
low_from u t e [] low each = low
low_from u t e (x ∷ l) low each =
    let head : u ≤ time x = All-head (λ y. u ≤ time y) x l each in
    let rest = All-tail (λ y. u ≤ time y) x l each in
    elim (cases_lt (time x) t) [
      | inl before ↦ rw (lt-ltb (time x) t before) (low_from u t (time x) l head rest)
      | inr behind ↦ rw (le-ltb (time x) t behind) (low_from u t e l low rest)
    ]

-- a stretch does not start before a point that is before its time
pub starts_from : (l : List Rec) (t u d : ℕ) → IsRising l → IsAmong u (times_of l) → u < t
    → u ≤ last_or d (filter (λ n. nat_lt n t) (times_of l))
starts_from [] t u d rises in_it before = absurd in_it
starts_from (x ∷ l) t u d rises in_it before =
    let rest = rising_tail x l rises in
    elim (cases_lt (time x) t) [
      | inl early ↦ rw (lt-ltb (time x) t early) (elim in_it [
        | inl same ↦
            low_from u t (time x) l (omega arith) (λ k d within. let h = rising_head x l rises k d within in omega arith)
        | inr later ↦ starts_from l t u (time x) rest later before
      ])
      | inr late ↦ rw (le-ltb (time x) t late) (elim in_it [
        | inl same ↦ absurd (omega arith)
        | inr later ↦ starts_from l t u d rest later before
      ])
    ]
