-- The values of calculations stay in windows that records do not touch.
use Rattle.std.proofs.Common.{◌≡◌, ℕ, zero, suc, ◌<◌, ℤ, true, false, List, [], ◌∷◌, Option, None, Some, refl, arith}
use Rattle.std.specs.Prelude.{position, slice_get, option_and_then}
use Rattle.std.specs.List.{list_all}
use Rattle.std.specs.Str.{bytes_eq}
use Rattle.std.proofs.lemmas.Bool.{and_parts}
use Rattle.trend_num.specs.{Rec, Measure, Point}
use Rattle.trend_model.specs.{window_value}
use Rattle.calc_check.specs.Group.{Group}
use Rattle.sheet_law.proofs.Window.{window_decides}
use Rattle.sheet_law.specs.{Grid, is_complete, reaches, window_from, window_to, any_touched, is_touched, longer, points_by, values_at}
use Rattle.sheet_law.proofs.Stay.{both_false, windows_stay}

-- what an input at a place measures
abbrev measure_at : Measure → ℕ → ℕ → List (List Point) → ℕ → Option ℤ
measure_at m from to points i = option_and_then (λ ps. window_value false m ps from to) (slice_get points i)

-- each input measures what it did
inputs_stay : (m : Measure) (rss mores : List (List Rec)) (from to i : ℕ) → from < to
    → list_all (reaches to) rss ≡ true → any_touched rss mores from to ≡ false
    → measure_at m from to (points_by (longer rss mores)) i ≡ measure_at m from to (points_by rss) i
inputs_stay m [] mores from to i some reach apart = refl
inputs_stay m (rs ∷ rss) [] from to i some reach apart = refl
inputs_stay m (rs ∷ rss) (more ∷ mores) from to zero some reach apart =
    windows_stay false m rs more from to some (and_parts (reaches to rs) (list_all (reaches to) rss) reach).0
    (both_false (is_touched rs more from to) (any_touched rss mores from to) apart).0
inputs_stay m (rs ∷ rss) (more ∷ mores) from to (suc i) some reach apart =
    inputs_stay m rss mores from to i some (and_parts (reaches to rs) (list_all (reaches to) rss) reach).1
    (both_false (is_touched rs more from to) (any_touched rss mores from to) apart).1

-- a window has a length
pub window_rises : (w : Grid) (k : ℕ) → 0 < w.period → window_from w k < window_to w k
window_rises w k some = grind arith

-- the values of all calculations stay in a complete window that is not touched
pub values_stay : (g : Group) (w : Grid) (rss mores : List (List Rec)) (k : ℕ) → 0 < w.period
    → is_complete w rss k ≡ true → any_touched rss mores (window_from w k) (window_to w k) ≡ false
    → values_at g w (longer rss mores) k ≡ values_at g w rss k
values_stay g w rss mores k some complete apart =
    window_decides g (points_by (longer rss mores)) (points_by rss) (window_from w k) (window_to w k)
    (λ m name. by_place m (position (bytes_eq name) g.inputs))
  where
    by_place : (m : Measure) (o : Option ℕ)
        → option_and_then (λ ps. window_value false m ps (window_from w k) (window_to w k))
        (option_and_then (slice_get (points_by (longer rss mores))) o)
        ≡ option_and_then (λ ps. window_value false m ps (window_from w k) (window_to w k))
        (option_and_then (slice_get (points_by rss)) o)
    by_place m None = refl
    by_place m (Some i) =
        inputs_stay m rss mores (window_from w k) (window_to w k) i (window_rises w k some) complete apart
