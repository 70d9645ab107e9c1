use Rattle.std.proofs.Common.{◌≡◌, length, drop, map, ◌∙◌, ap}
use Rattle.std.proofs.lemmas.List.Elements.{All-drop, All-same}
use Rattle.trend_num.specs.{InRange}
use Rattle.run_command.specs.{drill_file, row_of}
use Rattle.run_command.proofs.DrillSound.{as_many_rows, of_tag, rows_in_range}
use Rattle.run_command.proofs.drill_plant.drill_file.Goals as goal

pub returns-clause-of_tag : goal.returns-clause-of_tag
returns-clause-of_tag c = All-same (λ row. row.tag ≡ c.args.tag) _ _ c.in_ok-file.ensures
    (of_tag c.args.tag (drop c.args.from c.deref.result.now))

pub returns-clause-in_range : goal.returns-clause-in_range
returns-clause-in_range c =
    let points = c.deref.result.now in
    let in_range = All-same InRange _ _ c.deref.ensures.value c.in_ok-points.ensures.in_range in
    All-same (λ row. InRange row.point) _ _ c.in_ok-file.ensures
    (rows_in_range c.args.tag (drop c.args.from points) (All-drop InRange c.args.from points in_range))

pub returns-clause-as_many : goal.returns-clause-as_many
returns-clause-as_many c =
    let rows : c.in_ok-file.file.items ≡ drill_file c.args.number c.args.from c.args.to c.args.tag =
    c.in_ok-file.ensures
    ∙ ap (λ ps. map (row_of c.args.tag) (drop c.args.from ps)) (c.deref.ensures.value ∙ c.in_ok-points.ensures.points) in
    ap length rows ∙ as_many_rows c.args.number c.args.from c.args.to c.args.tag
