-- The points of a tag in the first rows of a log.
use Rattle.std.proofs.Common.{arith, ◌≡◌, ℕ, ◌≤◌, List, ◌++◌, length, take, drop, sym, ap, ◌∙◌, subst}
use Rattle.std.proofs.lemmas.List.{map-append, take-append-drop, take-take}
use Rattle.std.proofs.lemmas.List.Elements.{filter-append}
use Rattle.std.proofs.Math.Seq.{take-append_seam}
use Rattle.commit_log.specs.{LogRow, log_points_of}

-- the points in two lists
points-append : (tag : ℕ) (xs ys : List LogRow) → log_points_of tag (xs ++ ys) ≡ log_points_of tag xs ++ log_points_of tag ys
points-append tag xs ys = grind (arith, filter-append, map-append)

pub points_prefix : (tag : ℕ) (rows : List LogRow) (n : ℕ)
    → log_points_of tag (take n rows) ≡ take (length (log_points_of tag (take n rows))) (log_points_of tag rows)
points_prefix tag rows n =
    sym (ap (take (length (log_points_of tag (take n rows)))) (ap (log_points_of tag) (sym (take-append-drop n rows)) ∙ points-append tag (take n rows) (drop n rows))
    ∙ take-append_seam (log_points_of tag (take n rows)) (log_points_of tag (drop n rows)))

pub points_within : (tag : ℕ) (rows : List LogRow) (least n : ℕ) → least ≤ n
    → log_points_of tag (take least rows) ≡ take (length (log_points_of tag (take least rows))) (log_points_of tag (take n rows))
points_within tag rows least n le =
    subst (λ (l : List LogRow). log_points_of tag l ≡ take (length (log_points_of tag l)) (log_points_of tag (take n rows))) (take-take least n rows le)
    (points_prefix tag (take n rows) least)
