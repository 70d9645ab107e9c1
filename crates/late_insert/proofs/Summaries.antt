-- Summaries of points.
use Rattle.std.proofs.Common.{◌≡◌, ℕ, suc, ◌+◌, ◌-◌, ◌<◌, ◌≤◌, Bool, true, false, ℤ, List, [], ◌∷◌, Some, length, get_or, All, Option, drop, refl, sym, ap, ◌∙◌, subst, arith}
use Rattle.std.specs.Prelude.{slice_get, slice_range, unsigned_abs}
use Rattle.std.proofs.lemmas.Option.{slice_get-get_or}
use Rattle.trend_num.specs.{Point, InRange}
use Rattle.trend_model.specs.{last_point, area, points_of}
use Rattle.page_pool.specs.{Frame}
use Rattle.late_insert.specs.{Page, IsRecorded, rec_in, page_records_of, IsRun, Summary, page_most, least_of, greatest_of, no_point, summary_of}
use Rattle.late_insert.proofs.Keeping.{points_in_range}
use Rattle.std.proofs.lemmas.List.{length-map}
use Rattle.std.proofs.lemmas.List.Elements.{All-take, All-drop}
use Rattle.late_insert.proofs.Areas.{area_small}
use Rattle.late_insert.proofs.Ranges.{get_or-range, length-range}
use Rattle.late_insert.proofs.Summing.{points_range, points_in, length-points_in, get_or-points_in}

-- a summary is what its parts are
pub summary_made : (l : List Point) (first last : Point) (line stair low high : ℤ)
    → first ≡ get_or l 0 no_point → last ≡ get_or l (length l - 1) no_point
    → line ≡ area false l → stair ≡ area true l → low ≡ least_of l → high ≡ greatest_of l
    → record { first = first; last = last; line = line; stair = stair; low = low; high = high } ≡ summary_of l
summary_made l first last line stair low high a b c d e f = rw (a, b, c, d, e, f) refl

-- the last of some points, by its place
pub last_of : (l : List Point) → 0 < length l → last_point l ≡ Some (get_or l (length l - 1) no_point)
last_of [] some = absurd (omega arith)
last_of (x ∷ []) some = refl
last_of (x ∷ y ∷ l) some =
    let next : suc (length (y ∷ l) - 1) ≡ length (x ∷ y ∷ l) - 1 = omega arith in
    last_of (y ∷ l) (omega arith) ∙ ap (λ n. Some (get_or (x ∷ y ∷ l) n no_point)) next

pub first_of : (l : List Point) → 0 < length l → slice_get l 0 ≡ Some (get_or l 0 no_point)
first_of l some = slice_get-get_or l 0 no_point some

-- the ends are among the points
pub first_range : (l : List Point) → 0 < length l → All InRange l → InRange (get_or l 0 no_point)
first_range l some range = range 0 no_point some

pub last_range : (l : List Point) → 0 < length l → All InRange l → InRange (get_or l (length l - 1) no_point)
last_range l some range = range (length l - 1) no_point (omega arith)

-- the ends of some points of a frame
module _ (f : Frame) (start end : ℕ) (some : start < end) (within : end ≤ f.len) where
  fits : end ≤ length (points_in f)
  fits = omega (arith, length-points_in f)

  pub first_between : (p : Point) → p ≡ (rec_in f start).point
      → p ≡ get_or (slice_range (points_in f) start end) 0 no_point
  first_between p is =
      let place : start + 0 ≡ start = omega arith in
      is ∙ (sym (get_or-points_in f start no_point (omega arith))
      ∙ (ap (λ n. get_or (points_in f) n no_point) (sym place)
      ∙ sym (get_or-range (points_in f) start end 0 no_point (omega arith))))

  pub last_between : (p : Point) → p ≡ (rec_in f (end - 1)).point
      → p ≡ get_or (slice_range (points_in f) start end) (length (slice_range (points_in f) start end) - 1) no_point
  last_between p is =
      let long = length-range (points_in f) start end fits in
      let place : start + (length (slice_range (points_in f) start end) - 1) ≡ end - 1 = omega (arith, long) in
      is ∙ (sym (get_or-points_in f (end - 1) no_point (omega arith))
      ∙ (ap (λ n. get_or (points_in f) n no_point) (sym place)
      ∙ sym (get_or-range (points_in f) start end (length (slice_range (points_in f) start end) - 1) no_point
      (omega (arith, long)))))

-- and of all
pub first_in : (f : Frame) (p : Point) → 0 < f.len → p ≡ (rec_in f 0).point → p ≡ get_or (points_in f) 0 no_point
first_in f p some is = is ∙ sym (get_or-points_in f 0 no_point some)

pub last_in : (f : Frame) (p : Point) → 0 < f.len → p ≡ (rec_in f (f.len - 1)).point
    → p ≡ get_or (points_in f) (length (points_in f) - 1) no_point
last_in f p some is =
    is ∙ (sym (get_or-points_in f (f.len - 1) no_point (omega arith))
    ∙ ap (λ n. get_or (points_in f) (n - 1) no_point) (sym (length-points_in f)))

-- ---- the points of a run

module _ (pool : List (Option Frame)) (pages : List Page) (place end : ℕ) (s : Summary) (run : IsRun pool pages place end s) where
  abbrev points : List Point
  points = slice_range (points_of (page_records_of pool pages)) place end

  some_points : 0 < length points
  some_points =
      let all = length-map (page_records_of pool pages) (λ r. r.point) in
      omega (
        arith,
        run.some,
        run.within,
        all,
        length-range (points_of (page_records_of pool pages)) place end (omega (arith, run.within, all)),
      )

  each_range : All InRange points
  each_range = All-take InRange (end - place) (drop place (points_of (page_records_of pool pages)))
      (All-drop InRange place (points_of (page_records_of pool pages))
      (points_in_range pool 0 pages run.paged.each))

  pub run_some : 0 < length points
  run_some = some_points

  pub run_first : slice_get points 0 ≡ Some s.first
  run_first = first_of points some_points ∙ ap Some (sym (ap (λ (x : Summary). x.first) run.is))

  pub run_last : last_point points ≡ Some s.last
  run_last = last_of points some_points ∙ ap Some (sym (ap (λ (x : Summary). x.last) run.is))

  pub run_first_range : InRange s.first
  run_first_range = subst InRange (sym (ap (λ (x : Summary). x.first) run.is)) (first_range points some_points each_range)

  pub run_last_range : InRange s.last
  run_last_range = subst InRange (sym (ap (λ (x : Summary). x.last) run.is)) (last_range points some_points each_range)

-- the areas of a page are small
pub frame_small : (step : Bool) (f : Frame) → IsRecorded f → unsigned_abs (area step (points_in f)) ≤ page_most
frame_small step f recorded =
    let few = recorded.few in
    omega (arith, area_small step (points_in f) (points_range f recorded), length-points_in f)
