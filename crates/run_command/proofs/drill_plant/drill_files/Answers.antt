use Rattle.std.proofs.Common.{◌≡◌, ◌-◌, ◌<◌, List, ◌∷◌, [], map, length, All, Vec, Global, ◌∙◌, ap, sym, subst, arith}
use Rattle.std.proofs.lemmas.List.{map-append}
use Rattle.std.proofs.lemmas.List.Elements.{All-push, All-same, All-weaker}
use Rattle.trend_num.specs.{InRange}
use Rattle.value_rows.specs.{RawRow}
use Rattle.run_command.specs.{drill_file}
use Rattle.run_command.proofs.DrillGrowing.{one_place_more}
use Rattle.run_command.proofs.drill_plant.drill_files.Goals as goal

pub loop-tag-preserved : goal.loop-tag-preserved
loop-tag-preserved c =
    let before = c.loop-tag.invariant in
    let file = c.in_ok-file.ensures in
    let pushed = c.in_ok-push.ensures.items in
    let tag = c.loop-tag.tag in
    let rows_in : Vec RawRow Global → List RawRow = λ v. v.items in
    let OfTags : Vec RawRow Global → Type 0 = λ v. All (λ row. row.tag < c.args.tags) v.items in
    let Ranged : Vec RawRow Global → Type 0 = λ v. All (λ row. InRange row.point) v.items in
    let Long : Vec RawRow Global → Type 0 = λ v. length v.items ≡ c.args.to - c.args.from in
    let below = All-weaker (λ row. row.tag ≡ tag) (λ row. row.tag < c.args.tags)
    (λ row is. subst (λ n. n < c.args.tags) (sym is) c.loop-tag-test.true) _ file.of_tag in
    record {
      rows = one_place_more (drill_file c.args.number c.args.from c.args.to) tag _ _ _ before.rows file.rows
          (ap (map rows_in) pushed ∙ map-append rows_in c.loop-tag.files.items (c.in_ok-file.file ∷ []));
      of_tags = All-same OfTags _ _ pushed (All-push OfTags _ _ before.of_tags below);
      in_range = All-same Ranged _ _ pushed (All-push Ranged _ _ before.in_range file.in_range);
      as_many = All-same Long _ _ pushed (All-push Long _ _ before.as_many file.as_many);
      many = omega (arith, c.in_ok-push.ensures.len);
    }
