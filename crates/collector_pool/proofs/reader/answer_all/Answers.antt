use Rattle.std.proofs.Common.{◌≡◌, length, ◌∙◌, rules, arith}
use Rattle.collector_pool.proofs.Endings.{ends_reader, query_stops_none}
use Rattle.collector_pool.proofs.Snaps.{snaps_of_on, snaps_rise_on, snaps_seen_on}
use Rattle.collector_pool.proofs.reader.answer_all.Goals as goal

pub returns-in-Err-clause-ending : goal.returns-in-Err-clause-ending
returns-in-Err-clause-ending g c = grind (arith, ends_reader)

pub returns-in-Err-clause-stops : goal.returns-in-Err-clause-stops
returns-in-Err-clause-stops g c = grind (arith, query_stops_none)

pub loop-i-preserved : goal.loop-i-preserved
loop-i-preserved g c =
    let inv = c.loop-i.invariant in
    let count : length c.loop-i.snaps.items ≡ c.loop-i.i = search rules in
    record {
      snaps = rw c.push_reserved.ensures.items (snaps_of_on _ _ _ _ _ _ _ count c.loop-i-test.true c.in-Ok.ensures.seen inv.snaps);
      count = omega arith;
      room = omega arith;
      looks = c.in-Ok.ensures.looks;
      rise = rw c.push_reserved.ensures.items
          (snaps_rise_on _ _ _ _ _ _ _ count c.loop-i-test.true c.in-Ok.ensures.seen inv.rise inv.seen);
      seen = rw c.push_reserved.ensures.items (snaps_seen_on _ _ _ _ _ _ _ count c.loop-i-test.true c.in-Ok.ensures.seen inv.seen);
      fresh = c.if-not-pass.ensures ∙ inv.fresh;
    }
