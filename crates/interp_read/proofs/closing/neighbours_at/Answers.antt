use Rattle.std.proofs.Common.{None, Some, sym, ◌∙◌, arith}
use Rattle.interp_read.proofs.ClosedPoints.{found_behind, found_inside, found_last, past_all}
use Rattle.interp_read.proofs.closing.neighbours_at.Goals as goal

pub returns-in-Some-clause-neighbours : goal.returns-in-Some-clause-neighbours
returns-in-Some-clause-neighbours c =
    let near = c.around-around.ensures in
    rw c.in-Some.is
    (found_inside c.args.held c.args.content.now.records c.args.t c.around-around.result.below
    c.around-around.result.before _
    c.len-len.ensures.rising c.requires.last near.below near.before (sym near.after ∙ c.in-Some.is))

pub returns-in-Some-added-clause-neighbours : goal.returns-in-Some-added-clause-neighbours
returns-in-Some-added-clause-neighbours c =
    let near = c.around-around.ensures in
    let all = past_all c.args.content.now.records c.around-around.result.below
    (sym near.after ∙ c.in_default.is) in
    rw c.in_default.is
    (found_behind c.args.held c.args.content.now.records c.args.t c.around-around.result.below
    c.in-Some-added.q c.len-len.ensures.rising
    near.below all c.in-Some-added.ensures.closed c.in-Some-added.ensures.later c.if-q-t.true)

pub returns-in-Some-2-clause-neighbours : goal.returns-in-Some-2-clause-neighbours
returns-in-Some-2-clause-neighbours c =
    let near = c.around-around.ensures in
    let all = past_all c.args.content.now.records c.around-around.result.below
    (sym near.after ∙ c.in_default.is) in
    found_last c.args.held c.args.content.now.records c.args.t c.around-around.result.below
    c.around-around.result.before (Some c.in-Some-added.q)
    c.len-len.ensures.rising near.below all near.before c.in-Some-added.ensures.closed
    c.in-Some-added.ensures.later (omega arith)

pub returns-in-None-clause-neighbours : goal.returns-in-None-clause-neighbours
returns-in-None-clause-neighbours c =
    let near = c.around-around.ensures in
    let all = past_all c.args.content.now.records c.around-around.result.below
    (sym near.after ∙ c.in_default.is) in
    rw c.in_default.is
    (found_last c.args.held c.args.content.now.records c.args.t c.around-around.result.below
    c.around-around.result.before None
    c.len-len.ensures.rising near.below all near.before c.in-None.ensures.closed tt tt)
