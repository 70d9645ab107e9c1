-- Whether a tag had a snapshot, by how many events were taken since it was opened.
use Rattle.std.proofs.Common.{◌≡◌, ℕ, ◌-◌, ◌<◌, ◌≤◌, List, length, map, get_or, suc, sym, ap, ◌∙◌, arith, false, ◌&&◌, None, Some}
use Rattle.std.specs.List.{slice_get}
use Rattle.std.specs.Option.{option_map, option_map_or}
use Rattle.std.proofs.lemmas.Bool.{le-leb}
use Rattle.std.proofs.lemmas.Option.{slice_get-get_or, slice_get-map, slice_get_past}
use Rattle.trend_num.specs.{Point, Snap}
use Rattle.tag_cell.specs.{TagHistory}
use Rattle.session_report.specs.{closing, had, held_points, same_held}

module _ (h : TagHistory) (s : Snap) where
  -- if it is not before the opening, the point that closed the line then decides
  had_since : (since : ℕ) → h.opening.summary.taken ≤ s.taken → since ≡ s.taken - h.opening.summary.taken
      → had h s ≡ option_map_or (same_held s.held) (slice_get (closing h) since) false
  had_since since more is =
      ap (λ b. b && option_map_or (same_held s.held) (slice_get (closing h) (s.taken - h.opening.summary.taken)) false)
      (le-leb h.opening.summary.taken s.taken more)
      ∙ ap (λ n. option_map_or (same_held s.held) (slice_get (closing h) n) false) (sym is)

  -- after a take
  pub had_after : (since : ℕ) (held : List Point) (p : Point) → h.opening.summary.taken ≤ s.taken
      → since ≡ s.taken - h.opening.summary.taken → 0 < since → held ≡ held_points h.tape.items → since - 1 < length held
      → p ≡ get_or held (since - 1) p → had h s ≡ same_held s.held (Some p)
  had_after since held p more is some all within there =
      let number : since ≡ suc (since - 1) = omega (arith, some) in
      had_since (suc (since - 1)) more (sym number ∙ is)
      ∙ ap (λ o. option_map_or (same_held s.held) o false) (found ∙ ap (λ q. Some (Some q)) (sym there))
    where
      found : slice_get (map (λ q. Some q) (held_points h.tape.items)) (since - 1) ≡ Some (Some (get_or held (since - 1) p))
      found = ap (λ l. slice_get (map (λ q. Some q) l) (since - 1)) (sym all)
          ∙ slice_get-map (λ q. Some q) held (since - 1) ∙ ap (option_map (λ q. Some q)) (slice_get-get_or held (since - 1) p within)

  -- and never after more takes than there were
  pub had_past : (since : ℕ) (held : List Point) → h.opening.summary.taken ≤ s.taken → since ≡ s.taken - h.opening.summary.taken
      → 0 < since → held ≡ held_points h.tape.items → length held ≤ since - 1 → had h s ≡ false
  had_past since held more is some all past =
      let number : since ≡ suc (since - 1) = omega (arith, some) in
      had_since (suc (since - 1)) more (sym number ∙ is) ∙ ap (λ o. option_map_or (same_held s.held) o false) found
    where
      found : slice_get (map (λ q. Some q) (held_points h.tape.items)) (since - 1) ≡ None
      found = ap (λ l. slice_get (map (λ q. Some q) l) (since - 1)) (sym all)
          ∙ slice_get-map (λ q. Some q) held (since - 1) ∙ ap (option_map (λ q. Some q)) (slice_get_past held (since - 1) past)
