-- Records in order, put after all others.
use Rattle.std.proofs.Common.{◌≡◌, ◌≢◌, ℕ, ◌+◌, ◌-◌, ◌^◌, ◌<◌, ◌≤◌, inl, inr, ℤ, pos, List, [], ◌∷◌, ◌++◌, length, get_or, set, take, drop, All, fold, refl, sym, ap, ◌∙◌, subst, arith, append_assoc, append-nil}
use Rattle.std.specs.Int.{bit_at}
use Rattle.std.proofs.lemmas.List.{same_lists, take_more, get_or_default, get_or-set_same, get_or-set_other, length-set, length-take-le, length-take, get_or-take, get_or-drop, take-append-drop}
use Rattle.std.proofs.lemmas.List.Elements.{All-nil, All-cons, All-head, All-tail, All-append}
use Rattle.std.proofs.lemmas.Bool.{cases_eq}
use Rattle.std.proofs.lemmas.Nat.Bits.{bit_at_above}
use Rattle.std.proofs.Math.Pow.{pow_mono}
use Rattle.trend_num.specs.{Rec, InRange}
use Rattle.trend_num.specs.declared.archive.Kind.TheVariants.{Kept}
use Rattle.page_pool.specs.{Frame}
use Rattle.trend_model.specs.{IsRising, placed}
use Rattle.late_insert.specs.{kind_of, frame_records_in, IsRecorded}
use Rattle.trend_model.proofs.Placing.{time, AllBefore, rising_nil, rising_cons, rising_head, rising_tail, rising_across, rising_left, placed_behind}
use Rattle.late_insert.proofs.Summing.{length-records_in, get_or-records_in}
use Rattle.late_insert.proofs.Storing.{rec_of, same_rec}

-- ---- rising lists

-- two rising lists, of which one is before a time and the other is not
rising_joined : (xs ys : List Rec) (t : ℕ) → IsRising xs → IsRising ys → AllBefore xs t
    → All (λ y. t ≤ time y) ys → IsRising (xs ++ ys)
rising_joined [] ys t first second before from = second
rising_joined (x ∷ xs) ys t first second before from =
    let head : time x < t = All-head (λ y. time y < t) x xs before in
    rising_cons x (xs ++ ys)
    (All-append (λ y. time x < time y) xs ys (rising_head x xs first)
    (λ k d inside. let later = from k d inside in omega arith))
    (rising_joined xs ys t (rising_tail x xs first) second (All-tail (λ y. time y < t) x xs before) from)

-- what rises is from its first time on
from_first : (l : List Rec) (d : Rec) → IsRising l → All (λ y. time (get_or l 0 d) ≤ time y) l
from_first l d rises k e inside =
    let same = ap time (get_or_default l 0 e d (omega arith)) in
    elim (cases_eq k 0) [
      | inl is ↦ rw is (omega arith)
      | inr other ↦ let rise = rises 0 k e (omega arith) inside in omega arith
    ]

-- a run whose first is after all others
pub run_behind : (l recs : List Rec) (n : ℕ) (d : Rec) → IsRising l → IsRising (take n recs) → 0 < n
    → AllBefore l (time (get_or recs 0 d)) → IsRising (l ++ take n recs)
run_behind l recs n d rises run some before =
    let t = time (get_or recs 0 d) in
    let first = ap time (get_or-take n recs 0 d some) in
    let from : All (λ y. t ≤ time y) (take n recs) =
    subst (λ u. All (λ y. u ≤ time y) (take n recs)) first (from_first (take n recs) d run) in
    rising_joined l (take n recs) t rises run before from

-- where the last of a rising list is before a time, so is each
before_next : (l : List Rec) (i : ℕ) (d : Rec) (t : ℕ) → IsRising l → i + 1 ≡ length l → time (get_or l i d) < t
    → AllBefore l t
before_next l i d t rises end last k e inside =
    let same = ap time (get_or_default l i e d (omega arith)) in
    elim (cases_eq k i) [
      | inl is ↦ rw is (omega arith)
      | inr other ↦ let rise = rises k i e (omega arith) (omega arith) in omega arith
    ]

-- the first records of a list
pub first_rises : (l : List Rec) → IsRising (take 1 l)
first_rises l i j d below inside = absurd (omega (arith, length-take 1 l))

-- and one more that is after the last of them
pub next_rises : (l : List Rec) (i : ℕ) (d : Rec) → 0 < i → i < length l → IsRising (take i l)
    → time (get_or l (i - 1) d) < time (get_or l i d) → IsRising (take (i + 1) l)
next_rises l i d some within rises after =
    let r = get_or l i d in
    let long = length-take-le i l (omega arith) in
    let last = ap time (get_or-take i l (i - 1) d (omega arith)) in
    let one : IsRising (r ∷ []) = rising_cons r [] (All-nil (λ y. time r < time y)) rising_nil in
    let before : AllBefore (take i l) (time r) = before_next (take i l) (i - 1) d (time r) rises (omega arith)
    (omega arith) in
    let from : All (λ y. time r ≤ time y) (r ∷ []) = All-cons (λ y. time r ≤ time y) r [] (omega arith)
    (All-nil (λ y. time r ≤ time y)) in
    subst IsRising (sym (take_more l i d within)) (rising_joined (take i l) (r ∷ []) (time r) rises one before from)

-- ---- the content with a run

-- a record that is after all others comes last
pub placed_last : (r : Rec) (l : List Rec) → AllBefore l (time r) → placed r l ≡ l ++ r ∷ []
placed_last r l before = ap (placed r) (sym (append-nil l)) ∙ placed_behind r l [] before

-- records that rise after all others are put after them
pub listed_run : (l run : List Rec) → IsRising (l ++ run) → fold (λ m r. placed r m) l run ≡ l ++ run
listed_run l [] rises = sym (append-nil l)
listed_run l (r ∷ rs) rises =
    let one = placed_last r l (λ i d inside. rising_across l (r ∷ rs) rises i 0 d inside (omega arith)) in
    let joined = append_assoc l (r ∷ []) rs in
    ap (λ m. fold (λ n x. placed x n) m rs) one
    ∙ (listed_run (l ++ r ∷ []) rs (subst IsRising (sym joined) rises) ∙ joined)

-- records in order read as they are
pub listed_in_order : (recs : List Rec) (n : ℕ) → IsRising recs → fold (λ l r. placed r l) [] (take n recs) ≡ take n recs
listed_in_order recs n rises =
    listed_run [] (take n recs) (rising_left (take n recs) (drop n recs) (subst IsRising (sym (take-append-drop n recs))
    rises))

-- and the next one is after them
pub next_behind : (recs : List Rec) (n : ℕ) (d : Rec) → IsRising recs → n < length recs
    → AllBefore (take n recs) (time (get_or (drop n recs) 0 d))
next_behind recs n d rises within k e inside =
    let reach : k < n = omega (arith, length-take-le n recs (omega arith)) in
    let here = ap time (get_or-take n recs k e reach ∙ get_or_default recs k e d (omega arith)) in
    let next = ap time (get_or-drop n recs 0 d) in
    let rise = rises k (n + 0) d (omega arith) (omega arith) in
    omega arith

-- ---- a frame with a run

-- the first records of a run in these arrays and marks
pub record AreStored (run : List Rec) (i : ℕ) (times : List ℕ) (values : List ℤ) (marks : ℕ) : Type 0 where
  pub long_times : length times ≡ 128
  pub long_values : length values ≡ 128
  pub few : marks < 2 ^ i
  pub each : (k : ℕ) (d : Rec) → k < i
      → rec_of (kind_of (bit_at marks k)) (get_or times k 0) (get_or values k (pos 0)) ≡ get_or run k d

-- so are its first one more
pub stored_more : (run : List Rec) (i : ℕ) (times : List ℕ) (values : List ℤ) (marks late t : ℕ) (v : ℤ)
    → AreStored run i times values marks → i < length run → length run ≤ 128 → late < 2 ^ (i + 1)
    → ((d : Rec) → rec_of (kind_of (bit_at late i)) t v ≡ get_or run i d)
    → ((k : ℕ) → k ≢ i → bit_at late k ≡ bit_at marks k)
    → AreStored run (i + 1) (set times i t) (set values i v) late
stored_more run i times values marks late t v stored within most few here others = record {
  long_times = length-set times i t ∙ stored.long_times;
  long_values = length-set values i v ∙ stored.long_values;
  few = few;
  each = λ k d inside. elim (cases_eq k i) [
    | inl same ↦ rw same (same_rec _ _ _ _ _ _ refl
        (get_or-set_same times i t 0 (omega (arith, stored.long_times)))
        (get_or-set_same values i v (pos 0) (omega (arith, stored.long_values))) ∙ here d)
    | inr other ↦ same_rec _ _ _ _ _ _ (ap kind_of (others k other)) (get_or-set_other times i k t 0 other)
        (get_or-set_other values i k v (pos 0) other) ∙ stored.each k d (omega arith)
  ];
}

-- a Kept one more has no mark
pub stored_kept : (run : List Rec) (i : ℕ) (times : List ℕ) (values : List ℤ) (marks t : ℕ) (v : ℤ)
    → AreStored run i times values marks → i < length run → length run ≤ 128
    → ((d : Rec) → rec_of Kept t v ≡ get_or run i d)
    → AreStored run (i + 1) (set times i t) (set values i v) marks
stored_kept run i times values marks t v stored within most here =
    let none : bit_at marks i ≡ 0 = bit_at_above marks i i stored.few (omega arith) in
    let more : 2 ^ i ≤ 2 ^ (i + 1) = pow_mono {i = i} {j = i + 1} (omega arith) in
    stored_more run i times values marks marks t v stored within most (omega (arith, stored.few))
    (λ d. ap (λ n. rec_of (kind_of n) t v) none ∙ here d) (λ k other. refl)

-- a frame of a run
pub records-stored : (f : Frame) (run : List Rec) → f.len ≡ length run
    → AreStored run f.len f.times f.values f.late → frame_records_in f ≡ run
records-stored f run long stored =
    same_lists (frame_records_in f) run (length-records_in f ∙ long)
    (λ k d inside. let within : k < f.len = omega (arith, length-records_in f) in
    get_or-records_in f k d within ∙ stored.each k d within)

pub recorded-stored : (f : Frame) (run : List Rec) → f.len ≡ length run → length run ≤ 128
    → AreStored run f.len f.times f.values f.late → All (λ r. InRange r.point) run → IsRecorded f
recorded-stored f run long few stored range = record {
  few = omega arith;
  times = stored.long_times;
  values = stored.long_values;
  marks = stored.few;
  range = subst (All (λ r. InRange r.point)) (sym (records-stored f run long stored)) range;
}
