-- Totals of a page, counted point by point.
use Rattle.std.proofs.Common.{◌≡◌, Bool, false, ℕ, ◌+◌, ◌-◌, ◌<◌, ◌≤◌, ℤ, ◌+ℤ◌, List, [], ◌∷◌, ◌++◌, length, get_or, take, drop, All, refl, sym, ap, ap₂, ◌∙◌, subst, arith}
use Rattle.std.specs.Prelude.{FitsSigned}
use Rattle.std.specs.Int.{int_min, int_max, w128, w64}
use Rattle.std.proofs.lemmas.Int.{fits_signed_from_abs}
use Rattle.std.proofs.lemmas.List.{take_all, drop_more, get_or-drop, length-take, length-drop, length-map, get_or-map, map_push}
use Rattle.std.proofs.lemmas.List.FromFn.{length-map-range_with_len, get_or-map-range_with_len}
use Rattle.std.proofs.lemmas.List.Elements.{All-take, All-drop, All-map}
use Rattle.trend_num.specs.{Point, Rec, InRange}
use Rattle.page_pool.specs.{Frame}
use Rattle.late_insert.specs.{rec_in, frame_records_in, IsRecorded, IsPage, Extreme, least_of, greatest_of, extreme_of, outer}
use Rattle.trend_model.specs.{points_of, area, piece}
use Rattle.late_insert.specs.declared.total.Extreme.TheVariants.{Least, Greatest}
use Rattle.late_insert.proofs.Areas.{area_put, area_more, extreme_more, least_push, greatest_push, area_fits}

-- ---- the records of a frame

pub length-records_in : (f : Frame) → length (frame_records_in f) ≡ f.len
length-records_in f = length-map-range_with_len (rec_in f) 0 f.len

pub get_or-records_in : (f : Frame) (i : ℕ) (d : Rec) → i < f.len → get_or (frame_records_in f) i d ≡ rec_in f i
get_or-records_in f i d within = get_or-map-range_with_len (rec_in f) 0 f.len i i d within (omega arith)

-- each is in range, and so its value fits
pub rec_in_range : (f : Frame) (i : ℕ) → IsRecorded f → i < f.len → InRange (rec_in f i).point
rec_in_range f i recorded within =
    let there = get_or-records_in f i (rec_in f i) within in
    subst (λ r. InRange r.point) there (recorded.range i (rec_in f i) (omega (arith, length-records_in f)))

pub value_fits : (p : Point) → InRange p → FitsSigned w64 p.v
value_fits p range = fits_signed_from_abs w64 p.v (omega (arith, range.value))

-- ---- its points

abbrev pub points_in : Frame → List Point
points_in f = points_of (frame_records_in f)

pub length-points_in : (f : Frame) → length (points_in f) ≡ f.len
length-points_in f = length-map (frame_records_in f) (λ r. r.point) ∙ length-records_in f

pub get_or-points_in : (f : Frame) (i : ℕ) (d : Point) → i < f.len
    → get_or (points_in f) i d ≡ (rec_in f i).point
get_or-points_in f i d within =
    let inside : i < length (frame_records_in f) = omega (arith, length-records_in f) in
    get_or-map (λ (r : Rec). r.point) (frame_records_in f) i (rec_in f i) d inside
    ∙ ap (λ (r : Rec). r.point) (get_or-records_in f i (rec_in f i) within)

pub points_range : (f : Frame) → IsRecorded f → All InRange (points_in f)
points_range f recorded = All-map InRange (λ (r : Rec). r.point) (frame_records_in f) recorded.range

-- ---- counting

-- a total of the points of a frame from one place on, before another
pub record IsTotal (total : List Point → ℤ) (f : Frame) (start i : ℕ) (a : ℤ) : Type 0 where
  pub below : start < i
  pub within : i ≤ f.len
  pub is : a ≡ total (take (i - start) (drop start (points_in f)))

-- the points from a place on, by their places
on_range : (f : Frame) (start i : ℕ) (d : Point) → start ≤ i → i < f.len
    → get_or (drop start (points_in f)) (i - start) d ≡ (rec_in f i).point
on_range f start i d from within =
    let place : start + (i - start) ≡ i = omega arith in
    get_or-drop start (points_in f) (i - start) d
    ∙ (ap (λ n. get_or (points_in f) n d) place ∙ get_or-points_in f i d within)

-- the first of them alone
first_alone : (f : Frame) (start : ℕ) (p : Point) → start < f.len → p ≡ (rec_in f start).point
    → take (start + 1 - start) (drop start (points_in f)) ≡ p ∷ []
first_alone f start p within first =
    let one : start + 1 - start ≡ 1 = omega arith in
    let here : get_or (points_in f) start p ≡ p = get_or-points_in f start p within ∙ sym first in
    let split : drop start (points_in f) ≡ p ∷ drop (start + 1) (points_in f) =
    drop_more (points_in f) start p (omega (arith, length-points_in f))
    ∙ ap (λ x. x ∷ drop (start + 1) (points_in f)) here in
    rw (one, split) refl

pub total_first : (total : List Point → ℤ) (f : Frame) (start : ℕ) (p : Point) (a : ℤ) → start < f.len
    → p ≡ (rec_in f start).point
    → a ≡ total (p ∷ []) → IsTotal total f start (start + 1) a
total_first total f start p a within first is =
    record {
      below = omega arith;
      within = omega arith;
      is = is
          ∙ sym (ap total (first_alone f start p within first));
    }

-- one point more
module _ (f : Frame) (start i : ℕ) (from : start < i) (within : i < f.len) where
  -- the points up to it, as a list
  abbrev upto : List Point
  upto = drop start (points_in f)

  places : (i + 1 - start ≡ i - start + 1) × ((i - start < length upto) × (i - 1 - start ≡ i - start - 1))
  places = (omega arith, (omega (arith, length-drop start (points_in f), length-points_in f), omega arith))

  more_by : (total : List Point → ℤ) (a : ℤ) → a ≡ total (take (i - start + 1) upto)
      → IsTotal total f start (i + 1) a
  more_by total a is = record {
    below = omega arith;
    within = omega arith;
    is = is ∙ sym (ap (λ n. total (take n upto)) places.0);
  }

  pub area_total : (step : Bool) (p q : Point) (a : ℤ) → IsTotal (area step) f start i a
      → p ≡ (rec_in f (i - 1)).point
      → q ≡ (rec_in f i).point → IsTotal (area step) f start (i + 1) (a +ℤ piece step p q)
  area_total step p q a was last next =
      let here : get_or upto (i - start) p ≡ q = on_range f start i p (omega arith) within ∙ sym next in
      let behind : get_or upto (i - start - 1) p ≡ p =
      ap (λ n. get_or upto n p) (sym places.1.1)
      ∙ (on_range f start (i - 1) p (omega arith) (omega arith) ∙ sym last) in
      more_by (area step) (a +ℤ piece step p q)
      (ap₂ (λ x y. x +ℤ y) was.is (sym (ap₂ (piece step) behind here))
      ∙ sym (area_more step upto (i - start) p (omega arith) places.1.0))

  pub extreme_total : (e : Extreme) (q : Point) (a b : ℤ) → IsTotal (extreme_of e) f start i a
      → q ≡ (rec_in f i).point → b ≡ outer e a q.v → IsTotal (extreme_of e) f start (i + 1) b
  extreme_total e q a b was next is =
      let here : get_or upto (i - start) q ≡ q = on_range f start i q (omega arith) within ∙ sym next in
      more_by (extreme_of e) b
      (is ∙ (ap₂ (outer e) was.is (sym (ap (λ (x : Point). x.v) here))
      ∙ sym (extreme_more e upto (i - start) q (omega arith) places.1.0)))

-- of one value it is that value
pub extreme_one : (e : Extreme) (p : Point) → p.v ≡ extreme_of e (p ∷ [])
extreme_one Least p = refl
extreme_one Greatest p = refl

-- an area fits its type
pub total_fits : (step : Bool) (f : Frame) (start i : ℕ) (a : ℤ) → IsRecorded f
    → IsTotal (area step) f start i a → FitsSigned w128 a
total_fits step f start i a recorded total =
    let l = take (i - start) (drop start (points_in f)) in
    let few : length l ≤ 128 =
    omega (
      arith,
      length-take (i - start) (drop start (points_in f)),
      length-drop start (points_in f),
      length-points_in f,
      recorded.few,
    ) in
    subst (FitsSigned w128) (sym total.is)
    (area_fits step l (All-take InRange (i - start) (drop start (points_in f))
    (All-drop InRange start (points_in f) (points_range f recorded))) few)

-- the totals of all points
pub whole_range : (f : Frame) → take (f.len - 0) (drop 0 (points_in f)) ≡ points_in f
whole_range f =
    let long : length (points_in f) ≤ f.len - 0 = omega (arith, length-points_in f) in
    take_all (f.len - 0) (points_in f) long

-- points from a place on, before another, that are as many as all, are all
pub all_range : (f : Frame) (start end : ℕ) → start < end → end ≤ f.len → f.len ≤ end - start
    → take (end - start) (drop start (points_in f)) ≡ points_in f
all_range f start end some within whole =
    let none : start ≡ 0 = omega arith in
    let all : end ≡ f.len = omega arith in
    rw (none, all) (whole_range f)

-- ---- one record more

-- g is f with the record r after its others, and the totals of f
pub record IsPushed (f g : Frame) (r : Rec) (last : Point) : Type 0 where
  pub page : IsPage f
  pub some : 0 < f.len
  pub recorded : IsRecorded g
  pub records : frame_records_in g ≡ frame_records_in f ++ r ∷ []
  pub end : last ≡ (rec_in f (f.len - 1)).point
  pub area : g.area ≡ f.area
  pub low : g.low ≡ f.low
  pub high : g.high ≡ f.high

-- it is what a store at the end says
pub is_pushed : (f g : Frame) (r : Rec) (last : Point) → IsPage f → 0 < f.len → last ≡ (rec_in f (f.len - 1)).point
    → IsRecorded g → frame_records_in g ≡ frame_records_in f ++ r ∷ [] → g.area ≡ f.area → g.low ≡ f.low → g.high ≡ f.high
    → IsPushed f g r last
is_pushed f g r last page some end recorded records area low high = record {
  page = page;
  some = some;
  recorded = recorded;
  records = records;
  end = end;
  area = area;
  low = low;
  high = high;
}

module _ (f g : Frame) (r : Rec) (last : Point) (push : IsPushed f g r last) where
  -- its points
  points_pushed : points_in g ≡ points_in f ++ r.point ∷ []
  points_pushed = ap points_of push.records ∙ map_push (λ (x : Rec). x.point) (frame_records_in f) r

  -- an area with one piece more
  pub area_pushed : (step : Bool) (a line : ℤ) → a ≡ area step (points_in f) → line ≡ piece step last r.point
      → a +ℤ line ≡ area step (points_in g)
  area_pushed step a line was is_line =
      let there : get_or (points_in f) (f.len - 1) last ≡ last =
      get_or-points_in f (f.len - 1) last (omega (arith, push.some)) ∙ sym push.end in
      let i : f.len - 1 + 1 ≡ length (points_in f) = omega (arith, push.some, length-points_in f) in
      ap₂ (λ x y. x +ℤ y) was (is_line ∙ ap (λ x. piece step x r.point) (sym there))
      ∙ (sym (area_put step (points_in f) (f.len - 1) last r.point i) ∙ ap (area step) (sym points_pushed))

  pub area_of_fits : (step : Bool) (a : ℤ) → a ≡ area step (points_in f) → FitsSigned w128 a
  area_of_fits step a was =
      subst (FitsSigned w128) (sym was)
      (area_fits step (points_in f) (points_range f push.page.recorded)
      (omega (arith, length-points_in f, push.page.recorded.few)))

  pub area_pushed_fits : (step : Bool) (a line : ℤ) → a ≡ area step (points_in f)
      → line ≡ piece step last r.point
      → FitsSigned w128 (a +ℤ line)
  area_pushed_fits step a line was is_line =
      subst (FitsSigned w128) (sym (area_pushed step a line was is_line))
      (area_fits step (points_in g) (points_range g push.recorded)
      (omega (arith, length-points_in g, push.recorded.few)))

  pub page_pushed : (line low high : ℤ) → line ≡ piece false last r.point → low ≡ int_min g.low r.point.v
      → high ≡ int_max g.high r.point.v
      → IsPage (record {
        len = g.len;
        times = g.times;
        values = g.values;
        late = g.late;
        area = g.area +ℤ
            line;
        low = low;
        high = high;
      })
  page_pushed line low high is_line is_low is_high =
      let kept = push.recorded in
      let some : 0 < length (points_in f) = omega (arith, push.some, length-points_in f) in
      record {
        recorded = record {
          few = kept.few;
          times = kept.times;
          values = kept.values;
          marks = kept.marks;
          range = kept.range;
        };
        area = area_pushed false g.area line (push.area ∙ push.page.area) is_line;
        low = is_low ∙ (ap (λ m. int_min m r.point.v) (push.low ∙ push.page.low)
            ∙ (sym (least_push (points_in f) r.point some) ∙ ap least_of (sym points_pushed)));
        high = is_high ∙ (ap (λ m. int_max m r.point.v) (push.high ∙ push.page.high)
            ∙ (sym (greatest_push (points_in f) r.point some) ∙ ap greatest_of (sym points_pushed)));
      }
