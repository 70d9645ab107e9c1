use Rattle.std.proofs.Common.{◌≡◌, ◌≤◌, get_or, ap, arith, vec_len, vec_capacity}
use Rattle.std.proofs.lemmas.List.{get_or_default}
use Rattle.calc_refresh.proofs.Inputs.{each_set, lists_kept}
use Rattle.calc_refresh.proofs.room.room_in_rows.Goals as goal

pub returns-in_err-reserve-clause-rows : goal.returns-in_err-reserve-clause-rows
returns-in_err-reserve-clause-rows c = grind (arith, lists_kept)

pub loop-i-preserved : goal.loop-i-preserved
loop-i-preserved c =
    let same : vec_len (get_or c.loop-i.rows c.loop-i.i c.index-rows-i.result)
    ≡ vec_len (get_or c.loop-i.rows c.loop-i.i c.index-rows-i-in-loop-i.result) =
    ap vec_len (get_or_default c.loop-i.rows c.loop-i.i c.index-rows-i.result c.index-rows-i-in-loop-i.result
    (omega (arith, c.loop-i-test.true, c.loop-i.auto.rows))) in
    record {
      kept = grind (arith, lists_kept);
      room = each_set (λ j row. c.args.windows ≤ vec_capacity row) c.loop-i.rows c.loop-i.i c.reserve.new.self
          (omega (arith, c.loop-i-test.true, c.loop-i.auto.rows)) c.loop-i.invariant.room
          (omega (arith, c.in_ok-reserve.ensures.ok, c.saturating_sub-more.ensures, c.len.ensures, same));
    }
