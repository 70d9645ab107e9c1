-- The shape of a window, from its ends and the places of the points between them.
use Rattle.std.specs.Prelude.{◌≡◌, ◌≤◌, ℕ, Bool, true, List, [], ◌∷◌, ◌++◌, length, nat_le, nat_lt, ◌&&◌, slice_range, All}
use Rattle.std.specs.List.{filter}
use Rattle.trend_num.specs.{Point, InRange}
use Rattle.trend_model.specs.{PointsRise, is_covered, shape}
use Rattle.weighted_total.specs.declared.shape.Ends.{Ends}

-- the points between the ends, and the same points with the ends
abbrev pub inner : List Point → Ends → List Point
inner ps e = slice_range ps e.first e.behind

abbrev pub outline : List Point → Ends → List Point
outline ps e = (e.start ∷ inner ps e) ++ e.end ∷ []

-- the points at the time `from` or later, and before the time `to`
abbrev pub counted : List Point → ℕ → ℕ → List Point
counted ps from to = filter (λ p. nat_le from p.t && nat_lt p.t to) ps

-- the ends of a window, and places of points between them
pub record AreEnds (ps : List Point) (e : Ends) : Type 0 where
  pub rises : PointsRise (outline ps e)
  pub range : All (λ p. InRange p) (outline ps e)
  pub order : e.first ≤ e.behind
  pub within : e.behind ≤ length ps

-- the shape of a covered window of the closed points cs, given by its ends and by places among the content's own points
-- ps
pub record IsShape (step : Bool) (cs ps : List Point) (from to : ℕ) (e : Ends) : Type 0 where
  pub covered : is_covered cs from to ≡ true
  pub whole : shape step cs from to ≡ outline ps e
  pub count : counted cs from to ≡ counted ps from to
  pub ends : AreEnds ps e
