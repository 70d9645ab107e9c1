use Rattle.std.proofs.Common.{arith}
use Rattle.std.proofs.lemmas.List.{get_or_default}
use Rattle.commit_log.proofs.Written.{one_more, turn_left}
use Rattle.commit_log.proofs.writer.put_rows.Goals as goal

pub loop-done-preserved : goal.loop-done-preserved
loop-done-preserved c =
    let l = c.loop-done in
    let rest = c.args.rest.now in
    let told = c.in_ok-more.ensures in
    let low = turn_left rest l.turns l.done c.args.count l.invariant.written.long c.loop-done-test.true c.requires.there in
    record {
      below = omega (arith, told.one, c.loop-done-test.true);
      written = one_more rest l.turns l.done c.in_ok-more.more c.args.bytes.now.items l.bytes.items c.put_turn.new.bytes.items _ low
          (get_or_default rest l.turns _ _ low) l.invariant.written told.bytes told.count;
    }
