use Rattle.std.proofs.Common.{◌≡◌, ◌<◌, sym, ◌∙◌, arith, rules, true, false}
use Rattle.value_rows.proofs.SoFar.{all_so_far, more_than_most, bad_so_far, one_more, ended, went_on}
use Rattle.value_rows.proofs.reading.whole_rows_behind.Goals as goal

pub read_next-requires : goal.read_next-requires
read_next-requires g c = (c.loop-count.invariant.left, c.loop-count.invariant.stands)

pub returns-then-not-branch-clause-rows : goal.returns-then-not-branch-clause-rows
returns-then-not-branch-clause-rows g c =
    let gone : c.in_ok-read_next.field-0 ≡ false = search rules in
    all_so_far c.loop-count.invariant (ended c.loop-count.invariant _ _ _ gone c.in_ok-read_next.ensures.next)

pub returns-then-count-most-clause-refused : goal.returns-then-count-most-clause-refused
returns-then-count-most-clause-refused g c =
    let found : c.in_ok-read_next.field-0 ≡ true = search rules in
    let (rest, first, has) = went_on c.loop-count.invariant _ _ _ found c.in_ok-read_next.ensures.next in
    more_than_most c.loop-count.invariant rest _ first c.if-count-most.true

pub returns-in-Err-clause-refused : goal.returns-in-Err-clause-refused
returns-in-Err-clause-refused g c =
    let found : c.in_ok-read_next.field-0 ≡ true = search rules in
    let (rest, first, has) = went_on c.loop-count.invariant _ _ _ found c.in_ok-read_next.ensures.next in
    let room : c.loop-count.count < c.args.most = omega (arith, c.loop-count.invariant.few, c.if-count-most.false) in
    bad_so_far c.loop-count.invariant rest _ first c.in-Err.reason room (sym c.read.ensures.row ∙ c.in-Err.is)

pub loop-count-preserved : goal.loop-count-preserved
loop-count-preserved g c =
    let found : c.in_ok-read_next.field-0 ≡ true = search rules in
    let (rest, first, has) = went_on c.loop-count.invariant _ _ _ found c.in_ok-read_next.ensures.next in
    let room : c.loop-count.count < c.args.most = omega (arith, c.loop-count.invariant.few, c.if-count-most.false) in
    one_more c.loop-count.invariant rest _ first c.read_next.new.reader c.push.new.rows.items c.in-Ok.read room
    (sym c.read.ensures.row ∙ c.in-Ok.is) c.in_ok-push-in-Ok.ensures.rows has c.in-Ok.ensures.is_row
