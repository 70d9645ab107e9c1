use Rattle.std.proofs.Common.{◌<◌, length, get_or, ◌∙◌, refl, arith, vec_len}
use Rattle.std.proofs.Math.Seq.{map-set_same}
use Rattle.std.proofs.lemmas.List.{length-set, take_more_set}
use Rattle.sheet_law.specs.{points_in, values}
use Rattle.calc_eval.proofs.Growth.{take_next}
use Rattle.calc_refresh.proofs.Columns.{column_full, column_kept, column_more, get-set_other, get-set_same, length-values, lengths_at}
use Rattle.calc_refresh.proofs.evaluation.evaluate_window.Goals as goal

pub index_mut-requires : goal.index_mut-requires
index_mut-requires g c =
    let row = c.index-rows-i.result in
    let same = lengths_at c.loop-i.rows c.args.rows.now c.loop-i.i row
    (omega (arith, c.loop-i-test.true, c.loop-i.auto.rows)) c.loop-i-test.true c.loop-i.invariant.lengths in
    let within = c.requires.within c.loop-i.i row c.loop-i-test.true in
    omega arith

pub loop-i-preserved : goal.loop-i-preserved
loop-i-preserved g c =
    let i = c.loop-i.i in
    let k = c.args.k in
    let rows = c.loop-i.rows in
    let was = c.loop-i.invariant in
    let v = c.eval-value.result in
    let row = c.index-rows-i.result in
    let old = get_or rows i row in
    let vals = values c.args.calcs.now (points_in c.args.contents.now) c.args.from c.args.to in
    let value = c.eval-value.ensures.value in
    let within : i < length rows = omega (arith, c.loop-i-test.true, c.loop-i.auto.rows) in
    let same = lengths_at rows c.args.rows.now i row within c.loop-i-test.true was.lengths in
    let below = c.requires.within i row c.loop-i-test.true in
    let inside : k < length old.items = omega (arith, old.ok.0) in
    record {
      places = length-set c.loop-i.lower i v ∙ was.places;
      before = grind (arith, take_more_set, take_next);
      filled = column_more rows i k _ v vals within (get-set_same old.items k v inside) value was.filled;
      others = λ j other. column_kept rows i j _ row (get-set_other old.items k j v other) ∙ was.others j other;
      lengths = map-set_same (λ w. vec_len w) rows i _ row refl ∙ was.lengths;
      counted = omega (arith, c.eval-value.ensures.step, was.counted);
    }

pub returns-clause-values : goal.returns-clause-values
returns-clause-values g c = grind (arith, column_full, length-values)
