use Rattle.std.proofs.Common.{◌+◌, sym, arith}
use Rattle.late_insert.specs.{page_records_of}
use Rattle.late_insert.proofs.Finding.{no_page, starts_rise, found_for}
use Rattle.late_insert.proofs.Reading.{IsGap, frame_page, frame_rises, gap_on}
use Rattle.late_insert.proofs.gap.gap_in.Goals as goal
use Rattle.late_insert.proofs.gap.gap_in.Goals.{After-below_in}

pub page_for-k-requires-clause-rising : goal.page_for-k-requires-clause-rising
page_for-k-requires-clause-rising c =
    starts_rise c.args.pool.now c.args.pages.now.items c.requires.pages

pub below_in-requires-clause-recorded : goal.below_in-requires-clause-recorded
below_in-requires-clause-recorded c =
    let is = c.frame_of.ensures.read no_page in
    (frame_page _ _ _ _ _ is).recorded

pub below_in-requires-clause-rising : goal.below_in-requires-clause-rising
below_in-requires-clause-rising c =
    let is = c.frame_of.ensures.read no_page in
    frame_rises _ _ _ _ _ is

pub overflow_cast-result : goal.overflow_cast-result
overflow_cast-result c =
    let is = c.frame_of.ensures.read no_page in
    omega (arith, c.below_in.ensures.bound, (frame_page _ _ _ _ _ is).recorded.few)

gap : (c : After-below_in)
    → IsGap (page_records_of c.args.pool.now c.args.pages.now.items) c.args.t (c.first.result + c.below_in.result)
gap c =
    let is = c.frame_of.ensures.read no_page in
    let found = found_for c.args.pool.now c.args.pages.now.items c.page_for-k.result c.args.t c.requires.pages
    is.within c.page_for-k.ensures.last in
    rw (sym (c.first.ensures no_page)) (gap_on _ _ _ _ _ is c.args.t c.below_in.result found
    c.below_in.ensures.bound c.below_in.ensures.before c.below_in.ensures.after)

pub overflow_add-result : goal.overflow_add-result
overflow_add-result c =
    omega (arith, (gap (goal.at.overflow_add-result c).After-below_in).bound, c.requires.few)

pub returns-clause-bound : goal.returns-clause-bound
returns-clause-bound c = (gap (goal.at.returns-clause-bound c).After-below_in).bound

pub returns-clause-before : goal.returns-clause-before
returns-clause-before c = (gap (goal.at.returns-clause-before c).After-below_in).before

pub returns-clause-after : goal.returns-clause-after
returns-clause-after c = (gap (goal.at.returns-clause-after c).After-below_in).after
