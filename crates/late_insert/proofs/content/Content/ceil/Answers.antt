use Rattle.std.proofs.Common.{ap, length, arith}
use Rattle.late_insert.proofs.Nearest.{ceil_there}
use Rattle.late_insert.proofs.content.Content.ceil.Goals as goal

pub returns : goal.returns
returns c =
    let l = c.args.self.now.records in
    let seen = ap (λ s. length s.records) c.self.view_is in
    ceil_there l c.args.t c.gap-i.result c.gap-i.ensures.rising c.gap-i.ensures.bound c.gap-i.ensures.before
    c.gap-i.ensures.after c.rec.result
    (omega (arith, c.gap-i.ensures.bound, c.if-i-self.false, c.self.invariant.counted))
    (c.rec.ensures.value c.rec.result)
