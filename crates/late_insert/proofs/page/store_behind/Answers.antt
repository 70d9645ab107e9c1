use Rattle.std.proofs.Common.{sym, subst, ◌∙◌}
use Rattle.std.specs.Int.{w64}
use Rattle.std.proofs.lemmas.Int.{to_z-of_z}
use Rattle.page_pool.specs.{Frame}
use Rattle.late_insert.proofs.Storing.{IsAppended, appended, appended_kept, one_more}
use Rattle.late_insert.proofs.Summing.{value_fits}
use Rattle.late_insert.proofs.page.store_behind.Goals as goal
use Rattle.late_insert.proofs.page.store_behind.Goals.{in-Kept, in-Late}

-- what is stored is the frame with the record behind the others
stored : (c : goal.After-frame-2-1) → IsAppended c.args.frame.now
    (one_more c.match-rec.frame c.match-rec.frame.times c.match-rec.frame.values c.match-rec.frame.late) c.args.rec
stored c =
    let f = c.args.frame.now in
    let back = to_z-of_z w64 c.args.rec.point.v (value_fits c.args.rec.point c.requires.range) in
    let Stored : Frame → Type 0 = λ g. IsAppended f (one_more g g.times g.values g.late) c.args.rec in
    elim c.match-rec.branch [
      | in-Kept w ↦ subst Stored (sym w.frame-is)
          (appended_kept f c.args.rec _ c.requires.recorded c.requires.room c.requires.range back (sym w.in-Kept.is))
      | in-Late w ↦ subst Stored (sym w.frame-is)
          (appended f c.args.rec _ _ c.requires.recorded c.requires.room c.requires.range back
          w.mark_put-frame.ensures.marks (w.mark_put-frame.ensures.there ∙ sym w.in-Late.is)
          w.mark_put-frame.ensures.others)
    ]

pub returns-clause-recorded : goal.returns-clause-recorded
returns-clause-recorded c = (stored c).recorded

pub returns-clause-records : goal.returns-clause-records
returns-clause-records c = (stored c).records
