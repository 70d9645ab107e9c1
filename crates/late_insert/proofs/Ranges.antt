-- Points at places one after another.
use Rattle.std.proofs.Common.{◌≡◌, ℕ, zero, suc, ◌+◌, ◌-◌, ◌<◌, ◌≤◌, List, [], ◌∷◌, ◌++◌, Some, length, get_or, take, drop, ap, ◌∙◌, arith, add-one}
use Rattle.std.specs.Prelude.{slice_get, slice_range}
use Rattle.std.proofs.lemmas.List.{drop-drop, get_or-take, get_or-drop, length-take, length-drop}
use Rattle.std.proofs.lemmas.Option.{slice_get-get_or}
use Rattle.std.proofs.Math.Seq.{take-add}
use Rattle.trend_num.specs.{Point}
use Rattle.trend_model.specs.{last_point}

-- two ranges that meet
pub range_joined : (ps : List Point) (i j k : ℕ) → i ≤ j → j ≤ k
    → slice_range ps i k ≡ slice_range ps i j ++ slice_range ps j k
range_joined ps i j k first second =
    let parts : k - i ≡ (j - i) + (k - j) = omega arith in
    let place : i + (j - i) ≡ j = omega arith in
    rw parts (take-add (j - i) (k - j) (drop i ps)
    ∙ ap (λ l. take (j - i) (drop i ps) ++ take (k - j) l)
    (drop-drop (j - i) i ps ∙ ap (λ n. drop n ps) place))

-- a point of a range, by its place
pub get_or-range : (ps : List Point) (i j k : ℕ) (d : Point) → k < j - i
    → get_or (slice_range ps i j) k d ≡ get_or ps (i + k) d
get_or-range ps i j k d within = get_or-take (j - i) (drop i ps) k d within ∙ get_or-drop i ps k d

pub length-range : (ps : List Point) (i j : ℕ) → j ≤ length ps → length (slice_range ps i j) ≡ j - i
length-range ps i j within = omega (arith, length-take (j - i) (drop i ps), length-drop i ps)

-- the first point of a range
pub range_first : (ps : List Point) (i j : ℕ) (d : Point) → i < j → j ≤ length ps
    → slice_get (slice_range ps i j) 0 ≡ Some (get_or ps i d)
range_first ps i j d some within =
    let place : i + 0 ≡ i = omega arith in
    slice_get-get_or (slice_range ps i j) 0 d (omega (arith, length-range ps i j within))
    ∙ ap Some (get_or-range ps i j 0 d (omega arith) ∙ ap (λ n. get_or ps n d) place)

-- the last of the first points
pub last_take : (ps : List Point) (n : ℕ) (p : Point) → slice_get ps n ≡ Some p
    → last_point (take (n + 1) ps) ≡ Some p
last_take ps n p there = rw add-one (of_suc ps n there)
  where
    of_suc : (xs : List Point) (k : ℕ) → slice_get xs k ≡ Some p → last_point (take (suc k) xs) ≡ Some p
    of_suc [] k h = cc
    of_suc (x ∷ xs) zero h = h
    of_suc (x ∷ []) (suc k) h = cc
    of_suc (x ∷ y ∷ xs) (suc k) h = of_suc (y ∷ xs) k h

-- the last point of a range
pub range_last : (ps : List Point) (i j : ℕ) (d : Point) → i < j → j ≤ length ps
    → last_point (slice_range ps i j) ≡ Some (get_or ps (j - 1) d)
range_last ps i j d some within =
    let many : j - i ≡ (j - 1 - i) + 1 = omega arith in
    let place : i + (j - 1 - i) ≡ j - 1 = omega arith in
    let there : slice_get (drop i ps) (j - 1 - i) ≡ Some (get_or ps (j - 1) d) =
    slice_get-get_or (drop i ps) (j - 1 - i) d (omega (arith, length-drop i ps))
    ∙ ap Some (get_or-drop i ps (j - 1 - i) d ∙ ap (λ n. get_or ps n d) place) in
    ap (λ n. last_point (take n (drop i ps))) many ∙ last_take (drop i ps) (j - 1 - i) (get_or ps (j - 1) d)
    there
