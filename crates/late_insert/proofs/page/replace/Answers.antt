use Rattle.std.proofs.Common.{ap, ◌∙◌, set}
use Rattle.std.specs.Int.{w64}
use Rattle.std.proofs.lemmas.Int.{to_z-of_z}
use Rattle.late_insert.specs.{frame_records_in}
use Rattle.trend_model.specs.{over}
use Rattle.late_insert.proofs.Summing.{value_fits}
use Rattle.late_insert.proofs.Storing.{records-rewritten, recorded-rewritten}
use Rattle.late_insert.proofs.page.replace.Goals as goal

pub refresh-requires-clause-recorded : goal.refresh-requires-clause-recorded
refresh-requires-clause-recorded c =
    let now = c.over-now.result in
    recorded-rewritten c.args.frame.now c.args.i now _ c.mark_put-frame.result c.requires.page.recorded
    c.requires.within c.over-now.ensures.range
    (c.over-now.ensures.time ∙ ap (λ r. r.point.t) c.rec_at.ensures.value)
    (to_z-of_z w64 now.point.v (value_fits now.point c.over-now.ensures.range))
    c.mark_put-frame.ensures.marks c.mark_put-frame.ensures.there c.mark_put-frame.ensures.others

pub returns-clause-records : goal.returns-clause-records
returns-clause-records c =
    let now = c.over-now.result in
    c.refresh.ensures.records ∙ (records-rewritten c.args.frame.now c.args.i now _ c.mark_put-frame.result
    c.requires.page.recorded c.requires.within
    c.over-now.ensures.range (c.over-now.ensures.time ∙ ap (λ r. r.point.t) c.rec_at.ensures.value)
    (to_z-of_z w64 now.point.v (value_fits now.point c.over-now.ensures.range)) c.mark_put-frame.ensures.marks
    c.mark_put-frame.ensures.there
    c.mark_put-frame.ensures.others
    ∙ ap (set (frame_records_in c.args.frame.now) c.args.i)
    (c.over-now.ensures.value ∙ ap (over c.args.rec) c.rec_at.ensures.value))
