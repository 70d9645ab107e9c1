use Rattle.std.proofs.Common.{◌≡◌, ◌+◌, ◌^◌, ◌-◌, ◌<◌, ◌≤◌, get_or, length, slice_range, sym, ap, ◌∙◌, arith}
use Rattle.std.specs.Prelude.{min}
use Rattle.trend_model.specs.{points_of}
use Rattle.page_pool.specs.{Frame}
use Rattle.late_insert.specs.{page_in, IsBlock, IsPageRead, summary_of}
use Rattle.late_insert.proofs.Joining.{page_at}
use Rattle.late_insert.proofs.Reading.{each_read, page_len, place_on}
use Rattle.late_insert.proofs.Summaries.{run_some}
use Rattle.late_insert.proofs.Walking.{block_run, block_split, block_walk, run_is, walk_on, walk_split}
use Rattle.late_insert.proofs.Finding.{no_page}
use Rattle.late_insert.proofs.walk.Runs.next.Goals as goal
use Rattle.late_insert.proofs.walk.Runs.next.Goals.{After-first-first, After-min-stop, After-summary_on}

-- the page begins no later than the run
begun : (c : After-first-first) → c.first-first.result ≤ c.self.inside.place
begun c =
    let on = c.self.invariant.at (omega (arith, c.self.invariant.ordered)) in
    let is = each_read c.self.inside.pool.now c.self.inside.pages.now.items c.self.inside.page no_page
    c.self.invariant.paged on.within in
    rw (sym (c.first-first.ensures no_page)) (place_on _ _ _ _ _ is c.self.inside.place on).0

pub overflow_sub-start : goal.overflow_sub-start
overflow_sub-start c = omega (arith, begun (goal.at.overflow_sub-start c).After-first-first)

pub overflow_sub-self-inside : goal.overflow_sub-self-inside
overflow_sub-self-inside c =
    omega (arith, begun (goal.at.overflow_sub-self-inside c).After-first-first, c.self.invariant.ordered)

-- a point is left, and the page of the walk is read
more : (c : After-min-stop) → c.self.inside.place < c.self.inside.end
more c = omega (arith, c.self.invariant.ordered)

there : (c : After-min-stop) → c.self.inside.page < length c.self.inside.pages.now.items
there c = (c.self.invariant.at (more c)).within

abbrev frame : (c : After-min-stop) → Frame
frame c = (page_at c.self.inside.pool.now c.self.inside.pages.now.items c.self.inside.page no_page (there c)
    c.self.invariant.paged.each).frame

read : (c : After-min-stop) → IsPageRead c.self.inside.pool.now c.self.inside.pages.now.items c.self.inside.page
    (get_or c.self.inside.pages.now.items c.self.inside.page no_page) (frame c)
read c = each_read c.self.inside.pool.now c.self.inside.pages.now.items c.self.inside.page no_page
    c.self.invariant.paged (there c)

-- the run ends with the page, or with the walk
stops : (c : After-min-stop) → c.min-stop.result ≡ min (frame c).len
    (c.self.inside.end - (get_or c.self.inside.pages.now.items c.self.inside.page no_page).first)
stops c =
    let long : c.len_of.result ≡ (frame c).len =
    sym (c.len_of.ensures.value no_page) ∙ page_len _ _ _ _ _ (read c) no_page in
    c.min-stop.ensures ∙ (ap (λ n. min n (c.self.inside.end - c.first-first.result)) long
    ∙ ap (λ n. min (frame c).len (c.self.inside.end - n)) (sym (c.first-first.ensures no_page)))

pub summary_on-requires-clause-some : goal.summary_on-requires-clause-some
summary_on-requires-clause-some c =
    let at = (goal.at.summary_on-requires-clause-some c).After-min-stop in
    let on = place_on _ _ _ _ _ (read at) c.self.inside.place (c.self.invariant.at (more at)) in
    omega (arith, on.0, on.1, stops at, c.first-first.ensures no_page, more at)

-- the summary is that of the points on the page
same : (c : After-summary_on) → c.summary_on.result ≡ summary_of (slice_range (points_of (page_in c.self.inside.pool.now
    (get_or c.self.inside.pages.now.items c.self.inside.page no_page)))
    (c.self.inside.place - (get_or c.self.inside.pages.now.items c.self.inside.page no_page).first) c.min-stop.result)
same c =
    let p = get_or c.self.inside.pages.now.items c.self.inside.page no_page in
    c.summary_on.ensures no_page
    ∙ ap (λ n. summary_of (slice_range (points_of (page_in c.self.inside.pool.now p)) (c.self.inside.place - n)
    c.min-stop.result)) (sym (c.first-first.ensures no_page))

pub invariant_of-run-2 : goal.invariant_of-run-2
invariant_of-run-2 c =
    let at = goal.at.invariant_of-run-2 c in
    let m = at.After-min-stop in
    rw (sym (c.first-first.ensures no_page))
    (run_is _ _ _ _ _ c.min-stop.result _ _ c.self.invariant (more m) (read m) (stops m) _ (same at.After-summary_on))

pub invariant_of-self-2 : goal.invariant_of-self-2
invariant_of-self-2 c =
    let at = (goal.at.invariant_of-self-2 c).After-min-stop in
    rw (sym (c.first-first.ensures no_page))
    (walk_on _ _ _ _ _ c.min-stop.result _ _ c.self.invariant (more at) (read at) (stops at))

pub returns-clause-front : goal.returns-clause-front
returns-clause-front c =
    let at = (goal.at.returns-clause-front c).After-min-stop in
    sym c.self.view_is ∙ rw (sym (c.first-first.ensures no_page))
    (walk_split _ _ _ _ _ c.min-stop.result _ _ c.self.invariant (more at) (read at) (stops at))

pub returns-clause-some : goal.returns-clause-some
returns-clause-some c =
    let at = goal.at.returns-clause-some c in
    let m = at.After-min-stop in
    rw (sym (c.first-first.ensures no_page))
    (run_some _ _ _ _ _ (run_is _ _ _ _ _ c.min-stop.result _ _ c.self.invariant (more m) (read m) (stops m) _
    (same at.After-summary_on)))

-- ---- a whole block

pub block_in-requires : goal.block_in-requires
block_in-requires c = (c.self.invariant.at (omega (arith, c.self.invariant.ordered))).within

pub invariant_of-run : goal.invariant_of-run
invariant_of-run c =
    let b : IsBlock c.self.inside.pages.now.items c.self.inside.page c.self.inside.place c.self.inside.end c.in-Some.block.behind
    c.in-Some.block.summary = c.in-Some.ensures.block in
    block_run _ _ _ _ _ _ _ no_page c.self.invariant (b.begins no_page) b.inside (b.ends no_page) b.before b.is

pub invariant_of-self : goal.invariant_of-self
invariant_of-self c =
    let b : IsBlock c.self.inside.pages.now.items c.self.inside.page c.self.inside.place c.self.inside.end c.in-Some.block.behind
    c.in-Some.block.summary = c.in-Some.ensures.block in
    block_walk _ _ _ _ _ _ _ no_page c.self.invariant (b.begins no_page) b.inside (b.ends no_page) b.before b.is

pub overflow_add-self : goal.overflow_add-self
overflow_add-self c =
    let b : IsBlock c.self.inside.pages.now.items c.self.inside.page c.self.inside.place c.self.inside.end c.in-Some.block.behind
    c.in-Some.block.summary = c.in-Some.ensures.block in
    let small : c.self.inside.page + 64 < 2 ^ 64 = c.in-Some.ensures.small in
    omega (arith, small)

pub returns-in-Some-clause-front : goal.returns-in-Some-clause-front
returns-in-Some-clause-front c =
    let b : IsBlock c.self.inside.pages.now.items c.self.inside.page c.self.inside.place c.self.inside.end c.in-Some.block.behind
    c.in-Some.block.summary = c.in-Some.ensures.block in
    sym c.self.view_is ∙ block_split _ _ _ _ _ _ _ no_page c.self.invariant (b.begins no_page) b.inside (b.ends no_page) b.before b.is

pub returns-in-Some-clause-some : goal.returns-in-Some-clause-some
returns-in-Some-clause-some c =
    let b : IsBlock c.self.inside.pages.now.items c.self.inside.page c.self.inside.place c.self.inside.end c.in-Some.block.behind
    c.in-Some.block.summary = c.in-Some.ensures.block in
    run_some _ _ _ _ _ (block_run _ _ _ _ _ _ _ no_page c.self.invariant (b.begins no_page) b.inside (b.ends no_page) b.before b.is)
