use Rattle.std.proofs.Common.{arith}
use Rattle.late_insert.proofs.Nearest.{floor_there, floor_before, floor_none}
use Rattle.late_insert.proofs.content.Content.floor.Goals as goal

pub returns-in-Some : goal.returns-in-Some
returns-in-Some c =
    floor_there c.args.self.now.records c.args.t c.gap-i.result c.gap-i.ensures.rising c.gap-i.ensures.bound
    c.gap-i.ensures.before
    c.gap-i.ensures.after c.in-Some.rec c.in-Some.ensures.there

pub returns-then-i-eq0 : goal.returns-then-i-eq0
returns-then-i-eq0 c =
    floor_none c.args.self.now.records c.args.t c.gap-i.result c.gap-i.ensures.rising c.gap-i.ensures.bound
    c.gap-i.ensures.before
    c.gap-i.ensures.after c.if-i-eq0.true c.in_default.ensures.none

pub returns : goal.returns
returns c =
    floor_before c.args.self.now.records c.args.t c.gap-i.result c.gap-i.ensures.rising c.gap-i.ensures.bound
    c.gap-i.ensures.before
    c.gap-i.ensures.after c.rec.result (omega (arith, c.if-i-eq0.false)) (c.rec.ensures.value c.rec.result)
    c.in_default.ensures.none
