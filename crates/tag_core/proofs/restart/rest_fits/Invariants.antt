use Rattle.std.proofs.Common.{◌≡◌, ◌↔◌, ◌∷◌, drop}
use Rattle.trend_num.specs.{Rec, InRange}
use Rattle.trend_model.specs.{Each, IsLateBefore, PointsRise, kept_points, last_point}
use Rattle.tag_core.proofs.restart.rest_fits.Given as goal

abbrev pub invariant-loop-rec : goal.invariant-loop-rec
invariant-loop-rec l =
    (PointsRise (l.fn.from ∷ kept_points l.recs) ↔ PointsRise (l.last ∷ kept_points (drop l.rec-index l.recs)))
    × (last_point (l.fn.from ∷ kept_points l.recs) ≡ last_point (l.last ∷ kept_points (drop l.rec-index l.recs)))
    × (Each (IsLateBefore l.held) l.recs ↔ Each (IsLateBefore l.held) (drop l.rec-index l.recs))
    × (Each (λ (r : Rec). InRange r.point) l.recs ↔ Each (λ (r : Rec). InRange r.point) (drop l.rec-index l.recs))
