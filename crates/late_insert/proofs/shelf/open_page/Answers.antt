use Rattle.std.proofs.Common.{◌≡◌, length, ap, sym, ◌∙◌, subst, arith}
use Rattle.page_pool.specs.{TakesFrame}
use Rattle.trend_model.specs.{points_of}
use Rattle.late_insert.specs.{summary_of, IsRecorded, frame_records_in, Listed}
use Rattle.late_insert.proofs.Opening.{empty_page, taken_empty, pages_opened, records-opened, lengths-opened}
use Rattle.late_insert.proofs.Summing.{length-records_in}
use Rattle.late_insert.proofs.shelf.open_page.Goals as goal

pub store_run-requires-clause-recorded : goal.store_run-requires-clause-recorded
store_run-requires-clause-recorded c =
    let takes : TakesFrame c.args.pool.now c.unwrap-id.result c.take_frame.new.self = rw c.unwrap-id.ensures at
    c.take_frame.ensures.taken in
    subst IsRecorded (sym (taken_empty _ _ _ c.frame_mut-frame.result.now takes c.frame_mut-frame.ensures.value))
    empty_page.recorded

pub refresh-stair-requires-clause-some : goal.refresh-stair-requires-clause-some
refresh-stair-requires-clause-some c =
    omega (arith, length-records_in c.store_run.new.frame, ap length c.store_run.ensures.records, c.requires.some)

-- what the pages take of the frame, that it was taken, and its summary
records : (c : goal.After-push) → frame_records_in c.refresh-stair.new.frame ≡ c.args.run.now
records c = c.refresh-stair.ensures.records ∙ c.store_run.ensures.records

takes_here : (c : goal.After-push) → TakesFrame c.args.pool.now c.unwrap-id.result c.take_frame.new.self
takes_here c = rw c.unwrap-id.ensures at c.take_frame.ensures.taken

summary_here : (c : goal.After-push)
    → c.summary_in-summary.result ≡ summary_of (points_of (frame_records_in c.refresh-stair.new.frame))
summary_here c = c.summary_in-summary.ensures.value

pub returns-clause-pages : goal.returns-clause-pages
returns-clause-pages c =
    rw (ap (λ (s : Listed). s.items) c.push.ensures)
    (pages_opened c.args.pool.now c.take_frame.new.self c.args.pages.now.items c.unwrap-id.result c.args.len
    c.refresh-stair.new.frame c.args.run.now c.requires.pages (takes_here c) c.refresh-stair.ensures.page _
    (summary_here c) (records c) c.requires.counted c.requires.some c.requires.rising c.requires.full)

pub returns-clause-records : goal.returns-clause-records
returns-clause-records c =
    rw (ap (λ (s : Listed). s.items) c.push.ensures)
    (records-opened c.args.pool.now c.take_frame.new.self c.args.pages.now.items c.unwrap-id.result c.args.len
    c.refresh-stair.new.frame c.args.run.now c.requires.pages (takes_here c) c.refresh-stair.ensures.page _
    (summary_here c) (records c) c.requires.counted c.requires.some c.requires.rising c.requires.full)

pub returns-clause-lengths : goal.returns-clause-lengths
returns-clause-lengths c =
    rw (ap (λ (s : Listed). s.items) c.push.ensures)
    (lengths-opened c.args.pool.now c.take_frame.new.self c.args.pages.now.items c.unwrap-id.result c.args.len
    c.refresh-stair.new.frame c.args.run.now c.requires.pages (takes_here c) c.refresh-stair.ensures.page _
    (summary_here c) (records c) c.requires.counted c.requires.some c.requires.rising c.requires.full)
