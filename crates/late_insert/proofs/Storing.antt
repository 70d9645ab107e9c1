-- A frame with one record more, and one with a record changed.
use Rattle.std.proofs.Common.{◌≡◌, ◌≢◌, ℕ, zero, suc, ◌+◌, ◌-◌, ◌^◌, ◌<◌, ◌≤◌, ◌⊎◌, inl, inr, ℤ, List, [], ◌∷◌, ◌++◌, length, get_or, set, take, drop, All, refl, sym, ap, ◌∙◌, subst, arith, add-one}
use Rattle.std.specs.Prelude.{insert, pos, bit_and, min, ◌/◌, ◌%◌}
use Rattle.std.proofs.lemmas.Nat.{and_mask, mod_below, div-add-mod', shr_below}
use Rattle.std.proofs.lemmas.Nat.Bits.{bit_at_above, bit_at_and, bit_at_ones, bit_at-lt, bit_at_cat_high}
use Rattle.std.proofs.Math.Pow.{pow_mono}
use Rattle.std.specs.Int.{bit_at}
use Rattle.std.proofs.lemmas.List.{same_lists, get_or-set_same, get_or-set_other, length-set, get_or-take, get_or-drop, length-take-le, length-drop}
use Rattle.std.proofs.lemmas.List.Edits.{length-insert, get_or-insert_below, get_or-insert_at, get_or-insert_above, insert_end}
use Rattle.std.proofs.lemmas.List.Elements.{All-append, All-cons, All-take, All-drop, All-set}
use Rattle.std.proofs.lemmas.Bool.{cases_order, cases_eq}
use Rattle.trend_num.specs.{Kind, Rec, InRange}
use Rattle.trend_num.specs.declared.archive.Kind.TheVariants.{Kept}
use Rattle.page_pool.specs.{Frame}
use Rattle.late_insert.specs.{kind_of, rec_in, frame_records_in, IsRecorded}
use Rattle.late_insert.proofs.Summing.{length-records_in, get_or-records_in}

-- a record by its parts
abbrev pub rec_of : Kind → ℕ → ℤ → Rec
rec_of k t v = record { kind = k; point = record { t = t; v = v } }

pub same_rec : (j k : Kind) (t u : ℕ) (v w : ℤ) → j ≡ k → t ≡ u → v ≡ w → rec_of j t v ≡ rec_of k u w
same_rec j k t u v w kinds times values = rw (kinds, times, values) refl

-- f with one record more, in these arrays
abbrev pub one_more : Frame → List ℕ → List ℤ → ℕ → Frame
one_more f times values late = record {
  len = f.len + 1;
  times = times;
  values = values;
  late = late;
  area = f.area;
  low = f.low;
  high =
      f.high;
}

-- g is f with a record put in at the place i
pub record IsInserted (f g : Frame) (i : ℕ) (r : Rec) : Type 0 where
  pub len : g.len ≡ f.len + 1
  pub within : i ≤ f.len
  pub before : (k : ℕ) → k < i → rec_in g k ≡ rec_in f k
  pub there : rec_in g i ≡ r
  pub after : (k : ℕ) → i ≤ k → k < f.len → rec_in g (k + 1) ≡ rec_in f k

pub records-inserted : (f g : Frame) (i : ℕ) (r : Rec) → IsInserted f g i r
    → frame_records_in g ≡ insert (frame_records_in f) i r
records-inserted f g i r put =
    let fits : i ≤ length (frame_records_in f) = omega (arith, length-records_in f, put.within) in
    let long = length-insert (frame_records_in f) i r fits in
    same_lists (frame_records_in g) (insert (frame_records_in f) i r)
    (omega (arith, length-records_in f, length-records_in g, put.len))
    (λ k d inside. by_place k d (omega (arith, length-records_in g, put.len)) (cases_order k i))
  where
    fits : i ≤ length (frame_records_in f)
    fits = omega (arith, length-records_in f, put.within)

    by_place : (k : ℕ) (d : Rec) → k < f.len + 1 → (k ≡ i) ⊎ ((k < i) ⊎ (i < k))
        → get_or (frame_records_in g) k d ≡ get_or (insert (frame_records_in f) i r) k d
    by_place k d inside (inl same) =
        get_or-records_in g k d (omega (arith, put.len))
        ∙ (ap (rec_in g) same ∙ (put.there ∙ (sym (get_or-insert_at (frame_records_in f) i r d fits)
        ∙ ap (λ n. get_or (insert (frame_records_in f) i r) n d) (sym same))))
    by_place k d inside (inr (inl less)) =
        get_or-records_in g k d (omega (arith, put.len)) ∙ (put.before k less
        ∙ (sym (get_or-records_in f k d (omega (arith, put.within)))
        ∙ sym (get_or-insert_below (frame_records_in f) i r d k less fits)))
    by_place zero d inside (inr (inr more)) = absurd (omega arith)
    by_place (suc k) d inside (inr (inr more)) =
        subst (λ n. get_or (frame_records_in g) n d ≡ get_or (insert (frame_records_in f) i r) n d) (add-one k)
        (get_or-records_in g (k + 1) d (omega (arith, put.len)) ∙ (put.after k (omega arith) (omega arith)
        ∙ (sym (get_or-records_in f k d (omega arith))
        ∙ sym (get_or-insert_above (frame_records_in f) i r d k (omega arith) fits))))

-- the records of f, and one more, are in range
pub range-inserted : (f g : Frame) (i : ℕ) (r : Rec) → frame_records_in g ≡ insert (frame_records_in f) i r → IsRecorded f
    → InRange r.point
    → All (λ x. InRange x.point) (frame_records_in g)
range-inserted f g i r is recorded range =
    let Each : Rec → Type 0 = λ x. InRange x.point in
    let l = frame_records_in f in
    subst (All Each) (sym is)
    (All-append Each (take i l) (r ∷ drop i l) (All-take Each i l recorded.range)
    (All-cons Each r (drop i l) range (All-drop Each i l recorded.range)))

-- g has the records of f, and r after them
pub record IsAppended (f g : Frame) (r : Rec) : Type 0 where
  pub recorded : IsRecorded g
  pub records : frame_records_in g ≡ frame_records_in f ++ r ∷ []

-- a record is written behind the others
module _ (f : Frame) (r : Rec) (v : ℤ) (late : ℕ) (recorded : IsRecorded f) (room : f.len < 128)
    (range : InRange r.point) (value : v ≡ r.point.v) (marks : late < 2 ^ (f.len + 1))
    (there : kind_of (bit_at late f.len) ≡ r.kind)
    (others : (k : ℕ) → k ≢ f.len → bit_at late k ≡ bit_at f.late k) where
  -- the frame then
  abbrev behind : Frame
  behind = one_more f (set f.times f.len r.point.t) (set f.values f.len v) late

  inserted : IsInserted f behind f.len r
  inserted = record {
    len = refl;
    within = omega arith;
    before = λ k less. same_rec _ _ _ _ _ _ (ap kind_of (others k (omega arith)))
        (get_or-set_other f.times f.len k r.point.t 0 (omega arith))
        (get_or-set_other f.values f.len k v (pos 0) (omega arith));
    there = same_rec _ _ _ _ _ _ there (get_or-set_same f.times f.len r.point.t 0 (omega (arith, recorded.times)))
        (get_or-set_same f.values f.len v (pos 0) (omega (arith, recorded.values)) ∙ value);
    after = λ k from inside. absurd (omega arith);
  }

  put_in : frame_records_in behind ≡ insert (frame_records_in f) f.len r
  put_in = records-inserted f behind f.len r inserted

  pub appended : IsAppended f behind r
  appended = record {
    recorded = record {
      few = omega arith;
      times = length-set f.times f.len r.point.t ∙ recorded.times;
      values = length-set f.values f.len v ∙ recorded.values;
      marks = marks;
      range = range-inserted f behind f.len r put_in recorded range;
    };
    records = put_in ∙ (ap (λ n. insert (frame_records_in f) n r) (sym (length-records_in f))
        ∙ insert_end (frame_records_in f) r);
  }

-- a Kept one has no mark
pub appended_kept : (f : Frame) (r : Rec) (v : ℤ) → IsRecorded f → f.len < 128 → InRange r.point → v ≡ r.point.v
    → Kept ≡ r.kind
    → IsAppended f (one_more f (set f.times f.len r.point.t) (set f.values f.len v) f.late) r
appended_kept f r v recorded room range value kept =
    let none : bit_at f.late f.len ≡ 0 = bit_at_above f.late f.len f.len recorded.marks (omega arith) in
    let more : 2 ^ f.len ≤ 2 ^ (f.len + 1) = pow_mono {i = f.len} {j = f.len + 1} (omega arith) in
    appended f r v f.late recorded room range value (omega (arith, recorded.marks)) (ap kind_of none ∙ kept)
    (λ k other. refl)

-- f with a value and a mark changed
abbrev pub rewritten : Frame → ℕ → ℤ → ℕ → Frame
rewritten f i v late =
    record {
      len = f.len;
      times = f.times;
      values = set f.values i v;
      late = late;
      area = f.area;
      low =
          f.low;
      high = f.high;
    }

-- g is f with another record at the place i
pub record IsReplaced (f g : Frame) (i : ℕ) (r : Rec) : Type 0 where
  pub len : g.len ≡ f.len
  pub within : i < f.len
  pub there : rec_in g i ≡ r
  pub others : (k : ℕ) → k ≢ i → k < f.len → rec_in g k ≡ rec_in f k

pub records-replaced : (f g : Frame) (i : ℕ) (r : Rec) → IsReplaced f g i r
    → frame_records_in g ≡ set (frame_records_in f) i r
records-replaced f g i r put =
    same_lists (frame_records_in g) (set (frame_records_in f) i r)
    (omega (arith, length-records_in f, length-records_in g, length-set (frame_records_in f) i r, put.len))
    (λ k d inside. by_place k d (omega (arith, length-records_in g, put.len)) (cases_eq k i))
  where
    by_place : (k : ℕ) (d : Rec) → k < f.len → (k ≡ i) ⊎ (k ≢ i) → get_or (frame_records_in g) k d ≡ get_or
        (set (frame_records_in f) i r) k d
    by_place k d inside (inl same) =
        get_or-records_in g k d (omega (arith, put.len)) ∙ (ap (rec_in g) same ∙ (put.there
        ∙ (sym (get_or-set_same (frame_records_in f) i r d (omega (arith, length-records_in f, put.within)))
        ∙ ap (λ n. get_or (set (frame_records_in f) i r) n d) (sym same))))
    by_place k d inside (inr other) =
        get_or-records_in g k d (omega (arith, put.len)) ∙ (put.others k other inside
        ∙ (sym (get_or-records_in f k d inside) ∙ sym (get_or-set_other (frame_records_in f) i k r d other)))

-- the record `now` is written over the one at the place i
module _ (f : Frame) (i : ℕ) (now : Rec) (v : ℤ) (late : ℕ) (recorded : IsRecorded f) (within : i < f.len)
    (range : InRange now.point)
    (same : now.point.t ≡ get_or f.times i 0) (value : v ≡ now.point.v) (marks : late < 2 ^ f.len)
    (there : kind_of (bit_at late i) ≡ now.kind)
    (others : (k : ℕ) → k ≢ i → bit_at late k ≡ bit_at f.late k) where
  pub replaced : IsReplaced f (rewritten f i v late) i now
  replaced =
      let inside : i < length f.values = omega (arith, recorded.few, recorded.values) in
      record {
        len = refl;
        within = within;
        there = same_rec _ _ _ _ _ _ there (sym same) (get_or-set_same f.values i v (pos 0) inside ∙ value);
        others = λ k other reach. same_rec _ _ _ _ _ _ (ap kind_of (others k other)) refl
            (get_or-set_other f.values i k v (pos 0) other);
      }

  pub records-rewritten : frame_records_in (rewritten f i v late) ≡ set (frame_records_in f) i now
  records-rewritten = records-replaced f (rewritten f i v late) i now replaced

  pub recorded-rewritten : IsRecorded (rewritten f i v late)
  recorded-rewritten = record {
    few = recorded.few;
    times = recorded.times;
    values = length-set f.values i v ∙ recorded.values;
    marks = marks;
    range = subst (All (λ x. InRange x.point)) (sym records-rewritten)
        (All-set (λ x. InRange x.point) (frame_records_in f) i now range recorded.range);
  }

-- ---- halves

-- g is the first n records of f
pub records-front : (f g : Frame) (n : ℕ) → g.len ≡ n → n ≤ f.len
    → ((k : ℕ) → k < n → rec_in g k ≡ rec_in f k)
    → frame_records_in g ≡ take n (frame_records_in f)
records-front f g n len within each =
    let long = length-take-le n (frame_records_in f) (omega (arith, length-records_in f)) in
    same_lists (frame_records_in g) (take n (frame_records_in f)) (omega (arith, length-records_in g)) (λ k d inside.
    let below : k < n = omega (arith, length-records_in g) in
    get_or-records_in g k d (omega arith) ∙ (each k below
    ∙ (sym (get_or-records_in f k d (omega arith)) ∙ sym (get_or-take n (frame_records_in f) k d below))))

-- g is the records of f after the first n
pub records-back : (f g : Frame) (n : ℕ) → n + g.len ≡ f.len
    → ((k : ℕ) → k < g.len → rec_in g k ≡ rec_in f (n + k))
    → frame_records_in g ≡ drop n (frame_records_in f)
records-back f g n len each =
    let long = length-drop n (frame_records_in f) in
    same_lists (frame_records_in g) (drop n (frame_records_in f))
    (omega (arith, length-records_in g, length-records_in f)) (λ k d inside.
    let below : k < g.len = omega (arith, length-records_in g) in
    get_or-records_in g k d below ∙ (each k below
    ∙ (sym (get_or-records_in f (n + k) d (omega arith)) ∙ sym (get_or-drop n (frame_records_in f) k d))))

-- the marks of the first 64 records, and of those after them
bit_front : (m k : ℕ) → k < 64 → bit_at (bit_and m (2 ^ 64 - 1)) k ≡ bit_at m k
bit_front m k below =
    bit_at_and m (2 ^ 64 - 1) k ∙ (ap (min (bit_at m k)) (bit_at_ones 64 k below)
    ∙ omega (arith, bit_at-lt m k))

bit_back : (m k : ℕ) → bit_at (m / 2 ^ 64) k ≡ bit_at m (64 + k)
bit_back m k =
    let low = mod_below m (2 ^ 64) (omega arith) in
    let back : 64 + k - 64 ≡ k = omega arith in
    ap (bit_at (m / 2 ^ 64)) (sym back)
    ∙ (sym (bit_at_cat_high (m / 2 ^ 64) 64 (m % 2 ^ 64) (64 + k) low (omega arith))
    ∙ ap (λ n. bit_at n (64 + k)) (div-add-mod' m (2 ^ 64)))

module _ (f : Frame) (recorded : IsRecorded f) (full : f.len ≡ 128) where
  -- the lower half of a full page
  abbrev pub lower_half : Frame
  lower_half = record {
    len = 64;
    times = f.times;
    values = f.values;
    late = bit_and f.late
        (2 ^ 64 - 1);
    area = f.area;
    low = f.low;
    high = f.high;
  }

  pub records-lower : frame_records_in lower_half ≡ take 64 (frame_records_in f)
  records-lower = records-front f lower_half 64 refl (omega arith)
      (λ k below. same_rec _ _ _ _ _ _ (ap kind_of (bit_front f.late k below)) refl refl)

  pub recorded-lower : IsRecorded lower_half
  recorded-lower = record {
    few = omega arith;
    times = recorded.times;
    values = recorded.values;
    marks = rw (and_mask f.late 64) (mod_below f.late (2 ^ 64) (omega arith));
    range = subst (All (λ x. InRange x.point)) (sym records-lower)
        (All-take (λ x. InRange x.point) 64 (frame_records_in f) recorded.range);
  }

  -- the upper half, in arrays that begin with it
  module _ (times : List ℕ) (values : List ℤ) (long_times : length times ≡ length f.times)
      (long_values : length values ≡ length f.values)
      (each_time : (k d : ℕ) → k + 64 < length f.times → get_or times k d ≡ get_or f.times (64 + k) d)
      (each_value : (k : ℕ) (d : ℤ) → k + 64 < length f.values → get_or values k d ≡ get_or f.values
      (64 + k) d) where
    abbrev pub upper_half : Frame
    upper_half = record {
      len = 64;
      times = times;
      values = values;
      late = f.late / 2 ^ 64;
      area =
          f.area;
      low = f.low;
      high = f.high;
    }

    pub records-upper : frame_records_in upper_half ≡ drop 64 (frame_records_in f)
    records-upper = records-back f upper_half 64 (omega arith)
        (λ k below. same_rec _ _ _ _ _ _ (ap kind_of (bit_back f.late k))
        (each_time k 0 (omega (arith, recorded.times)))
        (each_value k (pos 0) (omega (arith, recorded.values))))

    pub recorded-upper : IsRecorded upper_half
    recorded-upper = record {
      few = omega arith;
      times = long_times ∙ recorded.times;
      values = long_values ∙ recorded.values;
      marks = shr_below f.late 64 64 (subst (λ n. f.late < 2 ^ n) full recorded.marks);
      range = subst (All (λ x. InRange x.point)) (sym records-upper)
          (All-drop (λ x. InRange x.point) 64 (frame_records_in f) recorded.range);
    }
