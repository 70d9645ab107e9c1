-- The points that closed a line after the takes of a tape, entry by entry.
use Rattle.std.proofs.Common.{◌≡◌, ℕ, ◌+◌, ◌<◌, List, [], ◌∷◌, ◌++◌, length, take, get_or, sym, ap, ◌∙◌, append-nil, None, Some}
use Rattle.std.specs.List.{cons_option}
use Rattle.std.proofs.lemmas.List.{take_more}
use Rattle.std.proofs.lemmas.List.Elements.{filter_map-append}
use Rattle.trend_num.specs.{Point}
use Rattle.tag_cell.specs.{Entry}
use Rattle.session_report.specs.{held_after, held_points}

module _ (tape : List Entry) (i : ℕ) (e : Entry) (there : i < length tape) (is : e ≡ get_or tape i e) where
  -- with an entry more there is the point after that, if it is a take
  held_more : held_points (take (i + 1) tape) ≡ held_points (take i tape) ++ cons_option (held_after e) []
  held_more = ap held_points (take_more tape i e there ∙ ap (λ x. take i tape ++ x ∷ []) (sym is))
      ∙ filter_map-append held_after (take i tape) (e ∷ [])

  pub held_take : (p : Point) → held_after e ≡ Some p → held_points (take (i + 1) tape) ≡ held_points (take i tape) ++ p ∷ []
  held_take p after = held_more ∙ ap (λ o. held_points (take i tape) ++ cons_option o []) after

  pub held_other : held_after e ≡ None → held_points (take (i + 1) tape) ≡ held_points (take i tape)
  held_other after = held_more ∙ ap (λ o. held_points (take i tape) ++ cons_option o []) after ∙ append-nil (held_points (take i tape))
