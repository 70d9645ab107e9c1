use Rattle.std.proofs.Common.{arith, ◌≡◌, ◌≢◌, Some, ap, sym, ◌∙◌}
use Rattle.trend_num.specs.{Point}
use Rattle.trend_num.specs.declared.reading.Reading.TheVariants.{Exact, Flat}
use Rattle.interp_read.proofs.ReadsNextTo.{before_is, read_exact, read_flat, read_inside, read_nothing, value_back}
use Rattle.interp_read.proofs.read.reading_of.Goals as goal

pub reading_between-requires-clause-after : goal.reading_between-requires-clause-after
reading_between-requires-clause-after c =
    let near = rw (c.in-Some-Some.is-0, c.in-Some-Some.is-1) at c.requires.near.1 in
    before_is c.requires.near.0 c.args.t c.in-Some-Some.p (Some c.in-Some-Some.q) near

pub returns-in_default-Some : goal.returns-in_default-Some
returns-in_default-Some c = λ cs given.
    let q = c.in_default-Some.q in
    let near = rw c.in_default-Some.is-1 at given in
    let range = rw c.in_default-Some.is-1 at c.requires.after_range in
    ap Exact (value_back q range)
    ∙ sym (read_exact c.args.step cs c.args.t c.args.next.before q near c.if-q-t.true)

pub returns-in-Some-Some : goal.returns-in-Some-Some
returns-in-Some-Some c = grind (arith, read_inside)

pub returns-in-Some-None : goal.returns-in-Some-None
returns-in-Some-None c = λ cs given.
    let near = rw (c.in-Some-None.is-0, c.in-Some-None.is-1) at given in
    let range = rw c.in-Some-None.is-0 at c.requires.before_range in
    ap Flat (value_back c.in-Some-None.p range)
    ∙ sym (read_flat c.args.step cs c.args.t c.in-Some-None.p near)

pub returns-in-None-default : goal.returns-in-None-default
returns-in-None-default c = λ cs given.
    let near = rw c.in-None-default.is-0 at given in
    let other : (q : Point) → c.args.next.after ≡ Some q → q.t ≢ c.args.t =
    λ q is. let same : c.in_default-Some.q ≡ q = cc in rw (← same) c.if-q-t.false in
    sym (read_nothing c.args.step cs c.args.t c.args.next.after near other)

pub returns-in-None-default-2 : goal.returns-in-None-default-2
returns-in-None-default-2 c = λ cs given.
    let near = rw c.in-None-default.is-0 at given in
    sym (read_nothing c.args.step cs c.args.t c.args.next.after near (λ q is. cc))
