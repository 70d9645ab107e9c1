-- The base and the rows of a drill are sound.
use Rattle.std.proofs.Common.{◌≡◌, ℕ, suc, ◌<◌, ◌≤◌, ◌-◌, drop, List, [], ◌∷◌, length, map, All, arith, ap, sym, subst, ◌∙◌, refl, lit≤}
use Rattle.std.specs.List.{range_with_len}
use Rattle.std.proofs.lemmas.List.{length-drop, length-map}
use Rattle.std.proofs.lemmas.List.Elements.{All-map}
use Rattle.std.proofs.lemmas.List.FromFn.{get_or-range_with_len, length-map-range_with_len, length-range_with_len}
use Rattle.calc_check.specs.Group.{Calculation}
use Rattle.tag_base.specs.{GroupDef, CalcForm, Define, IsSoundGroup}
use Rattle.trend_num.specs.{Point, InRange, TuningInRange}
use Rattle.trend_report.specs.{drill_points, event, signal_at}
use Rattle.run_command.specs.{drill_calcs, drill_names, drill_tag, drill_tags, drill_tuning, IsDrillGroup, drill_file, row_of}
use Rattle.run_command.proofs.DrillNaming.{as_many_tags}

-- the tuning is in range, so each tag's is
tuning_in_range : TuningInRange drill_tuning
tuning_in_range = record {
  exc_dev = lit≤ tt;
  exc_max = lit≤ tt;
  comp_dev = lit≤ tt;
  comp_min = lit≤ tt;
  comp_max = lit≤ tt;
}

pub tuned_tags : (tags : ℕ) → All (λ def. TuningInRange def.tuning) (drill_tags tags)
tuned_tags tags = All-map (λ def. TuningInRange def.tuning) drill_tag (range_with_len 0 tags) (λ i d within. tuning_in_range)

-- the rows of a tag are of that tag
pub of_tag : (tag : ℕ) (points : List Point) → All (λ row. row.tag ≡ tag) (map (row_of tag) points)
of_tag tag points = All-map (λ row. row.tag ≡ tag) (row_of tag) points (λ i d within. refl)

-- and in range where its points are
pub rows_in_range : (tag : ℕ) (points : List Point) → All InRange points
    → All (λ row. InRange row.point) (map (row_of tag) points)
rows_in_range tag points in_range = All-map (λ row. InRange row.point) (row_of tag) points in_range

-- a tag has so many rows
pub as_many_rows : (number from to tag : ℕ) → length (drill_file number from to tag) ≡ to - from
as_many_rows number from to tag =
    let points = drill_points number tag to in
    length-map (drop from points) (row_of tag) ∙ length-drop from points
    ∙ ap (λ n. n - from) (length-map-range_with_len (λ n. event n (signal_at number tag n)) 0 to)

-- texts define as many calculations
as_many_defined : (texts : List CalcForm) (calcs : List Calculation) → Define texts calcs → length calcs ≡ length texts
as_many_defined [] [] defined = refl
as_many_defined [] (calc ∷ calcs) defined = absurd defined
as_many_defined (text ∷ texts) [] defined = absurd defined
as_many_defined (text ∷ texts) (calc ∷ calcs) defined = ap suc (as_many_defined texts calcs defined.2)

-- each tag has a name
pub as_many_names : (tags : ℕ) → length (drill_names tags) ≡ tags
as_many_names tags = length-map (drill_tags tags) (λ t. t.name) ∙ as_many_tags tags

-- the places of so many tags are below their number
places_below : (tags : ℕ) → All (λ i. i < tags) (range_with_len 0 tags)
places_below tags i d within =
    let below : i < tags = omega (arith, length-range_with_len 0 tags) in
    subst (λ k. k < tags) (sym (get_or-range_with_len 0 tags i d below)) (omega arith)

pub sound_group : (tags : ℕ) (g : GroupDef) → 1 ≤ tags → tags ≤ 64 → IsDrillGroup tags g → IsSoundGroup tags g
sound_group tags g some few is =
    let inputs : length g.inputs.items ≡ tags = ap length is.inputs ∙ length-range_with_len 0 tags in
    let names : length g.calcs.inputs ≡ tags = ap length is.calcs.inputs_are ∙ as_many_names tags in
    let calcs : length g.calcs.calcs ≡ 2 = as_many_defined drill_calcs g.calcs.calcs is.calcs.defined in
    record {
      inputs_are_tags = subst (All (λ i. i < tags)) (sym is.inputs) (places_below tags);
      some_inputs = omega arith;
      few_inputs = omega arith;
      as_many_names = names ∙ sym inputs;
      some_calcs = omega arith;
      few_calcs = omega arith;
      start = omega arith;
      some_period = omega arith;
      short_period = omega arith;
    }
