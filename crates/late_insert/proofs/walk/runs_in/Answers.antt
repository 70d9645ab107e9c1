use Rattle.std.proofs.Common.{◌<◌, ◌^◌, rules}
use Rattle.late_insert.proofs.Finding.{firsts_rise}
use Rattle.late_insert.proofs.Walking.{walk_first}
use Rattle.late_insert.proofs.walk.runs_in.Goals as goal

pub page_of-requires-clause-rising : goal.page_of-requires-clause-rising
page_of-requires-clause-rising c = firsts_rise c.args.pool.now 0 c.args.pages.now.items c.requires.pages.each

pub invariant_of-result : goal.invariant_of-result
invariant_of-result c =
    let few : c.args.behind < 2 ^ 32 = search rules in
    walk_first c.args.pool.now c.args.pages.now.items c.page_of.result c.args.first c.args.behind c.requires.pages
    c.page_of.ensures.within
    c.requires.order c.requires.within few c.page_of.ensures.last
