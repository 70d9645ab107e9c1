use Rattle.std.proofs.Common.{true, false, ap₂, ◌∙◌, rules}
use Rattle.std.specs.Prelude.{FitsSigned}
use Rattle.std.specs.Int.{int_min, int_max, w64}
use Rattle.std.proofs.lemmas.Int.{to_z-of_z}
use Rattle.trend_model.specs.{piece}
use Rattle.late_insert.proofs.Areas.{piece_small}
use Rattle.late_insert.proofs.Joined.{joined_made, three, three_fit}
use Rattle.late_insert.proofs.total.joined.Goals as goal

pub overflow_add-result-2 : goal.overflow_add-result-2
overflow_add-result-2 c = three_fit c.args.a.line c.args.b.line c.piece.result (piece false c.args.a.last c.args.b.first) c.requires.first.line c.requires.second.line c.piece.ensures
    (piece_small false c.args.a.last c.args.b.first c.requires.first.last c.requires.second.first)

pub overflow_add-result-4 : goal.overflow_add-result-4
overflow_add-result-4 c = three_fit c.args.a.stair c.args.b.stair c.piece-2.result (piece true c.args.a.last c.args.b.first) c.requires.first.stair c.requires.second.stair c.piece-2.ensures
    (piece_small true c.args.a.last c.args.b.first c.requires.first.last c.requires.second.first)

pub returns : goal.returns
returns c =
    let line = three c.args.a.line c.args.b.line c.piece.result (piece false c.args.a.last c.args.b.first) c.requires.first.line c.requires.second.line c.piece.ensures
    (piece_small false c.args.a.last c.args.b.first c.requires.first.last c.requires.second.first) in
    let stair = three c.args.a.stair c.args.b.stair c.piece-2.result (piece true c.args.a.last c.args.b.first) c.requires.first.stair c.requires.second.stair c.piece-2.ensures
    (piece_small true c.args.a.last c.args.b.first c.requires.first.last c.requires.second.first) in
    let least : FitsSigned w64 c.min.result = search rules in
    let greatest : FitsSigned w64 c.max.result = search rules in
    let low_a : FitsSigned w64 c.args.a.low = search rules in
    let low_b : FitsSigned w64 c.args.b.low = search rules in
    let high_a : FitsSigned w64 c.args.a.high = search rules in
    let high_b : FitsSigned w64 c.args.b.high = search rules in
    joined_made c.args.a c.args.b _ _ _ _ line stair
    (to_z-of_z w64 c.min.result least ∙ (c.min.ensures.value
    ∙ ap₂ int_min (to_z-of_z w64 c.args.a.low low_a) (to_z-of_z w64 c.args.b.low low_b)))
    (to_z-of_z w64 c.max.result greatest ∙ (c.max.ensures.value
    ∙ ap₂ int_max (to_z-of_z w64 c.args.a.high high_a) (to_z-of_z w64 c.args.b.high high_b)))
