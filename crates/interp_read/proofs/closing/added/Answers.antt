use Rattle.std.proofs.Common.{◌≡◌, ◌≢◌, Some, ◌∙◌, rules}
use Rattle.trend_num.specs.{Point}
use Rattle.interp_read.proofs.ClosedPoints.{added_held, last_of_all, same_held}
use Rattle.interp_read.proofs.closing.added.Goals as goal

pub returns-in-Some-clause-closed : goal.returns-in-Some-clause-closed
returns-in-Some-clause-closed c =
    let l = c.args.content.now.records in
    let last = last_of_all l c.len.result c.last_of.result c.len.ensures.value c.last_of.ensures.value in
    same_held c.args.held c.in_ok-q.q c.in-Some.p l c.in_ok-q.was c.len.ensures.rising (last ∙ c.in-Some.is)
    c.if-p-q.true

pub returns-in_default : goal.returns-in_default
returns-in_default c =
    let l = c.args.content.now.records in
    let q = c.in_ok-q.q in
    let last = last_of_all l c.len.result c.last_of.result c.len.ensures.value c.last_of.ensures.value in
    let other : (p : Point) → c.last_of.result ≡ Some p → p.t ≢ q.t = λ p is. let same : c.in-Some.p ≡ p =
    cc in rw (← same) c.if-p-q.false in
    let both = added_held c.args.held q l c.last_of.result c.in_ok-q.was c.len.ensures.rising c.requires.last last other in
    record { closed = both.0; later = both.1; range = search rules }

pub returns-in_default-2 : goal.returns-in_default-2
returns-in_default-2 c =
    let l = c.args.content.now.records in
    let q = c.in_ok-q.q in
    let last = last_of_all l c.len.result c.last_of.result c.len.ensures.value c.last_of.ensures.value in
    let other : (p : Point) → c.last_of.result ≡ Some p → p.t ≢ q.t = λ p is. cc in
    let both = added_held c.args.held q l c.last_of.result c.in_ok-q.was c.len.ensures.rising c.requires.last last other in
    record { closed = both.0; later = both.1; range = search rules }
