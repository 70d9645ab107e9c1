use Rattle.std.proofs.Common.{length, sym, ap, ◌∙◌, arith}
use Rattle.std.proofs.lemmas.List.{length_push, length-set}
use Rattle.std.proofs.lemmas.List.Edits.{length-insert}
use Rattle.late_insert.specs.{rec_in, frame_records_in}
use Rattle.trend_model.specs.{over}
use Rattle.late_insert.proofs.Summing.{length-records_in}
use Rattle.late_insert.proofs.Sorted.{placed_end, placed_there, placed_gap, grown_by}
use Rattle.late_insert.proofs.page.put_rec.Goals as goal

pub returns-then-i-frame-clause-records : goal.returns-then-i-frame-clause-records
returns-then-i-frame-clause-records c =
    c.push-stair.ensures.records ∙ placed_end c.args.frame.now c.args.rec
    (λ k less. c.below_in-i.ensures.before k (omega (arith, c.if-i-frame.true)))

pub returns-then-i-frame-clause-grown : goal.returns-then-i-frame-clause-grown
returns-then-i-frame-clause-grown c =
    grown_by c.args.frame.now c.push-stair.new.frame c.args.rec 1
    (ap length c.push-stair.ensures.records ∙ length_push (frame_records_in c.args.frame.now) c.args.rec)

pub returns-then-frame-i-clause-records : goal.returns-then-frame-i-clause-records
returns-then-frame-i-clause-records c =
    c.replace-stair.ensures.records
    ∙ placed_there c.args.frame.now c.args.rec c.below_in-i.result
    (omega (arith, c.below_in-i.ensures.bound, c.if-i-frame.false))
    c.below_in-i.ensures.before (sym c.if-frame-i.true)

pub returns-then-frame-i-clause-grown : goal.returns-then-frame-i-clause-grown
returns-then-frame-i-clause-grown c =
    grown_by c.args.frame.now c.replace-stair.new.frame c.args.rec 0
    (omega (
      arith,
      ap length c.replace-stair.ensures.records,
      length-set (frame_records_in c.args.frame.now)
          c.below_in-i.result (over c.args.rec (rec_in c.args.frame.now c.below_in-i.result)),
    ))

pub returns-clause-records : goal.returns-clause-records
returns-clause-records c =
    let i = c.below_in-i.result in
    c.refresh-stair.ensures.records ∙ (c.store.ensures.records
    ∙ placed_gap c.args.frame.now c.args.rec i c.requires.rising
    (omega (arith, c.below_in-i.ensures.bound, c.if-i-frame.false)) c.below_in-i.ensures.before
    (omega (
      arith,
      c.below_in-i.ensures.after i (omega arith)
          (omega (arith, c.below_in-i.ensures.bound, c.if-i-frame.false)),
      c.if-frame-i.false,
    )))

pub returns-clause-grown : goal.returns-clause-grown
returns-clause-grown c =
    let fits = length-insert (frame_records_in c.args.frame.now) c.below_in-i.result c.args.rec
    (omega (arith, c.below_in-i.ensures.bound, length-records_in c.args.frame.now)) in
    grown_by c.args.frame.now c.refresh-stair.new.frame c.args.rec 1
    (omega (arith, ap length c.refresh-stair.ensures.records, ap length c.store.ensures.records, fits))
