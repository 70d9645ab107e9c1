-- Searching a page by time.
use Rattle.std.proofs.Common.{◌≡◌, ℕ, ◌+◌, ◌<◌, ◌≤◌, inl, inr, [], ◌∷◌, ◌++◌, length, get_or, set, take, drop, append-nil, sym, ap, ◌∙◌, subst, arith}
use Rattle.std.specs.Prelude.{insert}
use Rattle.std.specs.List.Sorted.{IsNonDecreasing}
use Rattle.std.proofs.lemmas.List.{get_or-take, get_or-drop, take_all, length-take-le, length-drop, get_or_default}
use Rattle.std.proofs.lemmas.Bool.{cases_eq}
use Rattle.trend_num.specs.{Rec}
use Rattle.page_pool.specs.{Frame}
use Rattle.trend_model.specs.{IsRising, over, placed}
use Rattle.late_insert.specs.{IsRecorded, rec_in, frame_records_in}
use Rattle.trend_model.proofs.Placing.{time, AllBefore, AllAfter, placed_in_gap, placed_behind, placed_at}
use Rattle.late_insert.proofs.Summing.{length-records_in, get_or-records_in}

-- the times of a rising page rise
pub times_rise : (f : Frame) → IsRising (frame_records_in f) → (i j : ℕ) → i ≤ j → j < f.len
    → get_or f.times i 0 ≤ get_or f.times j 0
times_rise f rises i j below within =
    let d = rec_in f 0 in
    elim (cases_eq i j) [
      | inl same ↦ rw same (omega arith)
      | inr other ↦
          let first = ap time (get_or-records_in f i d (omega arith)) in
          let second = ap time (get_or-records_in f j d within) in
          let rise = rises i j d (omega arith) (omega (arith, length-records_in f)) in
          omega (arith, first, second, rise)
    ]

-- so do those in use, as numbers that do not fall
pub times_sorted : (f : Frame) → IsRecorded f → IsRising (frame_records_in f) → IsNonDecreasing (take f.len f.times)
times_sorted f recorded rises i j d below within =
    let long = length-take-le f.len f.times (omega (arith, recorded.few, recorded.times)) in
    let reach : j < f.len = omega arith in
    let first = get_or-take f.len f.times i d (omega arith)
    ∙ get_or_default f.times i d 0 (omega (arith, recorded.few, recorded.times)) in
    let second = get_or-take f.len f.times j d reach
    ∙ get_or_default f.times j d 0 (omega (arith, recorded.few, recorded.times)) in
    omega (arith, first, second, times_rise f rises i j below reach)

-- the records of a page before a place are before t
pub all_before : (f : Frame) (t i : ℕ) → i ≤ f.len → ((k : ℕ) → k < i → get_or f.times k 0 < t)
    → AllBefore (take i (frame_records_in f)) t
all_before f t i within less k d inside =
    let long = length-take-le i (frame_records_in f) (omega (arith, length-records_in f)) in
    let here : get_or (take i (frame_records_in f)) k d ≡ rec_in f k =
    get_or-take i (frame_records_in f) k d (omega arith) ∙ get_or-records_in f k d (omega arith) in
    subst (λ x. time x < t) (sym here) (less k (omega arith))

-- where the one at the place i is after t, so are all from there on
pub all_after : (f : Frame) (t i : ℕ) → IsRising (frame_records_in f) → i < f.len → t < get_or f.times i 0
    → AllAfter t (drop i (frame_records_in f))
all_after f t i rises within more k d inside =
    let reach : i + k < f.len = omega (arith, length-drop i (frame_records_in f), length-records_in f) in
    let here : get_or (drop i (frame_records_in f)) k d ≡ rec_in f (i + k) = get_or-drop i (frame_records_in f) k d
    ∙ get_or-records_in f (i + k) d reach in
    let rise = times_rise f rises i (i + k) (omega arith) reach in
    subst (λ x. t < time x) (sym here) (omega arith)

-- a record put in a gap of a page
pub placed_gap : (f : Frame) (r : Rec) (i : ℕ) → IsRising (frame_records_in f) → i < f.len
    → ((k : ℕ) → k < i → get_or f.times k 0 < time r)
    → time r < get_or f.times i 0 → insert (frame_records_in f) i r ≡ placed r (frame_records_in f)
placed_gap f r i rises within less more =
    sym (placed_in_gap r (frame_records_in f) i (all_before f (time r) i (omega arith) less)
    (all_after f (time r) i rises within more))

-- after all others
pub placed_end : (f : Frame) (r : Rec) → ((k : ℕ) → k < f.len → get_or f.times k 0 < time r)
    → frame_records_in f ++ r ∷ [] ≡ placed r (frame_records_in f)
placed_end f r less =
    let all = take_all f.len (frame_records_in f) (omega (arith, length-records_in f)) in
    let before : AllBefore (frame_records_in f) (time r) = subst (λ l. AllBefore l (time r)) all
    (all_before f (time r) f.len (omega arith) less) in
    sym (ap (placed r) (sym (append-nil (frame_records_in f))) ∙ placed_behind r (frame_records_in f) [] before)

-- at a time that is there
pub placed_there : (f : Frame) (r : Rec) (i : ℕ) → i < f.len → ((k : ℕ) → k < i → get_or f.times k 0 < time r)
    → time r ≡ get_or f.times i 0 → set (frame_records_in f) i (over r (rec_in f i)) ≡ placed r (frame_records_in f)
placed_there f r i within less same =
    let here = get_or-records_in f i r within in
    sym (placed_at r (frame_records_in f) i r (omega (arith, length-records_in f))
    (all_before f (time r) i (omega arith) less) (same ∙ ap time (sym here))
    ∙ ap (λ x. set (frame_records_in f) i (over r x)) here)

-- how long a page is then
pub grown_by : (f g : Frame) (r : Rec) (n : ℕ) → length (frame_records_in g) ≡ length (frame_records_in f) + n
    → g.len ≡ f.len + n
grown_by f g r n long = omega (arith, length-records_in f, length-records_in g)
