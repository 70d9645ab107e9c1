use Rattle.std.proofs.Common.{arith}
use Rattle.collector_pool.proofs.Sessions.{as_collector, as_reader, as_refresher, queries_known, rows_known, turns_known}
use Rattle.collector_pool.proofs.session.work_as.Goals as goal

pub returns-in-Collector-clause-note : goal.returns-in-Collector-clause-note
returns-in-Collector-clause-note g c = grind (arith, as_collector)

pub returns-in-Reader-clause-note : goal.returns-in-Reader-clause-note
returns-in-Reader-clause-note g c =
    let role = rw c.in-Reader.is at c.requires.role in
    let note = rw c.deref.ensures.value at c.read.ensures.note in
    rw c.in-Reader.is
    (as_reader _ c.args.work.now c.in-Reader.reader c.index-queries.result.now c.read.result role.0
    c.index-queries.ensures note)

pub returns-in-Refresher-clause-note : goal.returns-in-Refresher-clause-note
returns-in-Refresher-clause-note g c =
    let few = rw c.in-Refresher.is at c.requires.role in
    let note = rw c.index-turns.ensures at c.refresh.ensures.note in
    rw c.in-Refresher.is
    (as_refresher _ c.args.work.now c.in-Refresher.refresher c.index-turns.result.now c.refresh.result few note)

pub collect-requires-clause-rows : goal.collect-requires-clause-rows
collect-requires-clause-rows g c =
    let few = rw c.in-Collector.is at c.requires.role in
    rows_known _ _ c.args.work.now c.in-Collector.collector c.rows_of-rows.result.now c.requires.work few c.rows_of-rows.ensures

pub read-requires-clause-queries : goal.read-requires-clause-queries
read-requires-clause-queries g c κs within = grind (arith, queries_known)

pub refresh-requires-clause-group : goal.refresh-requires-clause-group
refresh-requires-clause-group g c κs within = grind (arith, turns_known)
