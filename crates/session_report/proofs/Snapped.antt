-- The points of the tags whose snapshots are asked.
use Rattle.std.proofs.Common.{◌≡◌, ℕ, ◌+◌, ◌<◌, List, [], length, get_or, refl, sym, ap, ◌∙◌, arith, Option, None, Some, true, cond, Vec, ◌∷◌, suc}
use Rattle.std.specs.declared.alloc.Global.{Global}
use Rattle.std.proofs.lemmas.List.{length-map}
use Rattle.std.specs.List.{list_any, slice_get}
use Rattle.std.specs.Option.{option_map, option_map_or, unwrap_or}
use Rattle.std.proofs.lemmas.Bool.{eq-eqb}
use Rattle.std.proofs.lemmas.List.Folds.{list_any_at}
use Rattle.std.proofs.lemmas.Option.{unwrap_or-slice_get}
use Rattle.trend_num.specs.{Point}
use Rattle.value_rows.specs.{Query}
use Rattle.value_rows.specs.declared.asked.Query.TheVariants.{Snap}
use Rattle.tag_cell.specs.{TagHistory}
use Rattle.session_report.specs.{IsHeldFor, held_lists, is_snap, is_snapped, placed_answers, held_points}
use Rattle.calc_refresh.specs.{lists_of}
use Rattle.session_report.proofs.Placed.{placed_get}

-- the query at a place of a reader asks a snapshot, so that is asked
snapped : (readers : List (List Query)) (reader k tag : ℕ) (d : Query) → reader < length readers → k < length (get_or readers reader [])
    → get_or (get_or readers reader []) k d ≡ Snap tag → is_snapped readers tag ≡ true
snapped readers reader k tag d there within is =
    list_any_at (list_any (is_snap tag)) readers reader [] there
    (list_any_at (is_snap tag) (get_or readers reader []) k d within (ap (is_snap tag) is ∙ eq-eqb tag tag refl))

-- and there are the points of its tag
pub held_for : (readers : List (List Query)) (tags : List TagHistory) (reader k : ℕ) (d : Query) → reader < length readers
    → k < length (get_or readers reader []) → IsHeldFor (get_or (get_or readers reader []) k d) tags (held_lists readers tags)
held_for readers tags reader k d there within tag is =
    sym (unwrap_or-slice_get (held_lists readers tags) tag [])
    ∙ ap (λ o. unwrap_or o []) (placed_get points 0 tags tag) ∙ by (slice_get tags tag)
  where
    points : ℕ → TagHistory → List Point
    points n h = cond (is_snapped readers n) (held_points h.tape.items) []

    wanted : is_snapped readers (0 + tag) ≡ true
    wanted = let number : 0 + tag ≡ tag = omega arith in ap (is_snapped readers) number ∙ snapped readers reader k tag d there within is

    by : (o : Option TagHistory) → unwrap_or (option_map (points (0 + tag)) o) [] ≡ held_points (option_map_or (λ h. h.tape.items) o [])
    by None = refl
    by (Some h) = ap (λ b. cond b (held_points h.tape.items) []) wanted

-- as many lists as tags
pub as_many_held : (readers : List (List Query)) (tags : List TagHistory) (lists : List (Vec Point Global))
    → lists_of lists ≡ held_lists readers tags → length lists ≡ length tags
as_many_held readers tags lists same =
    let items : Vec Point Global → List Point = λ v. v.items in
    sym (length-map lists items) ∙ ap length same ∙ length-placed 0 tags
  where
    length-placed : (n : ℕ) (hs : List TagHistory)
        → length (placed_answers (λ tag h. cond (is_snapped readers tag) (held_points h.tape.items) []) n hs) ≡ length hs
    length-placed n [] = refl
    length-placed n (h ∷ hs) = ap suc (length-placed (n + 1) hs)
