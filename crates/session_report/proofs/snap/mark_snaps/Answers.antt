use Rattle.std.proofs.Common.{get_or}
use Rattle.std.proofs.lemmas.List.{get_or_default}
use Rattle.trend_num.specs.declared.query.TagQuery.TheVariants.{At}
use Rattle.value_rows.specs.declared.asked.Query.TheVariants.{Tag}
use Rattle.session_report.proofs.Marks.{none_marked, query_marked}
use Rattle.session_report.proofs.snap.mark_snaps.Goals as goal

pub loop-query-init : goal.loop-query-init
loop-query-init c = none_marked c.args.marks.now

pub loop-query-preserved : goal.loop-query-preserved
loop-query-preserved c =
    let queries = c.args.queries.now in
    let i = c.loop-query.query-index in
    let query = get_or queries i (Tag 0 (At 0)) in
    query_marked queries i query _ _ _ c.loop-query-test.true (get_or_default queries i (Tag 0 (At 0)) query c.loop-query-test.true)
    c.loop-query.invariant c.mark_snap.ensures
