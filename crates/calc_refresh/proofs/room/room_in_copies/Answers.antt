use Rattle.std.proofs.Common.{◌+◌, ◌≤◌, length, get_or, arith, vec_len, vec_capacity}
use Rattle.std.specs.Prelude.{Vec}
use Rattle.std.specs.declared.alloc.Global.{Global}
use Rattle.std.proofs.lemmas.List.{get_or_default}
use Rattle.trend_num.specs.{Rec}
use Rattle.calc_refresh.proofs.Inputs.{each_set, lists_kept}
use Rattle.calc_refresh.proofs.room.room_in_copies.Goals as goal

pub returns-in_err-reserve-clause-copies : goal.returns-in_err-reserve-clause-copies
returns-in_err-reserve-clause-copies c = grind (arith, lists_kept)

pub loop-i-preserved : goal.loop-i-preserved
loop-i-preserved c =
    let i = c.loop-i.i in
    let v = c.index-deltas-i.result in
    let room = each_set (λ j w. (d : Vec Rec Global) → vec_len w + length (get_or c.args.deltas.now j d).items ≤ vec_capacity w)
    c.loop-i.copies i c.reserve.new.self (omega (arith, c.loop-i-test.true, c.loop-i.auto.copies))
    (λ j e before d. c.loop-i.invariant.room j e d before)
    (λ d. grind (arith, get_or_default)) in
    record {
      kept = grind (arith, lists_kept);
      room = λ j e d before. room j e before d;
    }
