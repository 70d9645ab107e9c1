use Rattle.std.proofs.Common.{◌<◌, length, arith}
use Rattle.std.proofs.lemmas.List.{length-map, take_all}
use Rattle.sheet_law.specs.{longer}
use Rattle.calc_refresh.specs.{lists_of, IsCopy}
use Rattle.calc_refresh.proofs.Inputs.{each_read, length-longer, length_at, total_more}
use Rattle.calc_refresh.proofs.limit.records_after.Goals as goal

pub overflow_add-records-in-loop-i : goal.overflow_add-records-in-loop-i
overflow_add-records-in-loop-i c =
    let v = c.index-copies-i.result in
    let d = c.index-deltas-i.result in
    let one = each_read IsCopy c.args.copies.now c.loop-i.i v c.loop-i-test.true c.index-copies-i.is c.requires.copied in
    let two = each_read IsCopy c.args.deltas.now c.loop-i.i d (omega (arith, c.loop-i-test.true, c.requires.inputs)) c.index-deltas-i.is c.requires.more in
    omega (arith, c.len.ensures, c.len-in-loop-i.ensures, v.ok.0, d.ok.0, one.short, two.short, c.loop-i.invariant.bound, c.requires.few, c.loop-i-test.true)

pub loop-i-preserved : goal.loop-i-preserved
loop-i-preserved c =
    let i = c.loop-i.i in
    let v = c.index-copies-i.result in
    let d = c.index-deltas-i.result in
    let inside : i < length c.args.deltas.now = omega (arith, c.loop-i-test.true, c.requires.inputs) in
    let one = each_read IsCopy c.args.copies.now i v c.loop-i-test.true c.index-copies-i.is c.requires.copied in
    let two = each_read IsCopy c.args.deltas.now i d inside c.index-deltas-i.is c.requires.more in
    let all = longer (lists_of c.args.copies.now) (lists_of c.args.deltas.now) in
    let count = length-longer (lists_of c.args.copies.now) (lists_of c.args.deltas.now) in
    let more = total_more all i (omega (arith, count, length-map c.args.copies.now (λ v. v.items), c.loop-i-test.true)) in
    let here = length_at c.args.copies.now c.args.deltas.now i v d c.loop-i-test.true inside c.index-copies-i.is c.index-deltas-i.is in
    record {
      summed = omega (arith, more, here, c.loop-i.invariant.summed, c.len.ensures, c.len-in-loop-i.ensures, v.ok.0, d.ok.0);
      bound = omega (arith, c.len.ensures, c.len-in-loop-i.ensures, v.ok.0, d.ok.0, one.short, two.short, c.loop-i.invariant.bound);
    }

pub returns : goal.returns
returns c = grind (arith, length-longer, take_all, length-map)
