use Rattle.std.proofs.Common.{pos, refl, ap, ◌∙◌, arith}
use Rattle.std.specs.Int.{w64}
use Rattle.std.proofs.lemmas.Int.{to_z-of_z}
use Rattle.late_insert.specs.{kind_of}
use Rattle.late_insert.proofs.Summing.{value_fits}
use Rattle.late_insert.proofs.Storing.{one_more, IsInserted, same_rec, records-inserted, range-inserted}
use Rattle.late_insert.proofs.page.store.Goals as goal

-- what is stored is the frame with the record put in
inserted : (c : goal.After-frame-2-1) → IsInserted c.args.frame.now
    (one_more c.args.frame.now c.insert_at.new.xs c.insert_at-2.new.xs c.mark_inserted-frame.result) c.args.i
    c.args.rec
inserted c =
    let fits = value_fits c.args.rec.point c.requires.range in
    record {
      len = refl;
      within = c.requires.within;
      before = λ k less. same_rec _ _ _ _ _ _ (ap kind_of (c.mark_inserted-frame.ensures.before k less))
          (c.insert_at.ensures.before k 0 less)
          (c.insert_at-2.ensures.before k (pos 0) less);
      there = same_rec _ _ _ _ _ _ c.mark_inserted-frame.ensures.there (c.insert_at.ensures.there 0)
          (c.insert_at-2.ensures.there (pos 0) ∙ to_z-of_z w64 c.args.rec.point.v fits);
      after = λ k from inside. same_rec _ _ _ _ _ _ (ap kind_of (c.mark_inserted-frame.ensures.after k from))
          (c.insert_at.ensures.after k 0 from inside)
          (c.insert_at-2.ensures.after k (pos 0) from inside);
    }

pub returns-clause-recorded : goal.returns-clause-recorded
returns-clause-recorded c = record {
  few = omega (arith, c.requires.room);
  times = c.insert_at.ensures.len ∙ c.requires.recorded.times;
  values = c.insert_at-2.ensures.len ∙ c.requires.recorded.values;
  marks = c.mark_inserted-frame.ensures.marks;
  range = range-inserted c.args.frame.now
      (one_more c.args.frame.now c.insert_at.new.xs c.insert_at-2.new.xs c.mark_inserted-frame.result)
      c.args.i c.args.rec (records-inserted c.args.frame.now
      (one_more c.args.frame.now c.insert_at.new.xs c.insert_at-2.new.xs c.mark_inserted-frame.result)
      c.args.i c.args.rec (inserted c)) c.requires.recorded c.requires.range;
}

pub returns-clause-records : goal.returns-clause-records
returns-clause-records c = records-inserted c.args.frame.now
    (one_more c.args.frame.now c.insert_at.new.xs c.insert_at-2.new.xs c.mark_inserted-frame.result) c.args.i
    c.args.rec (inserted c)
