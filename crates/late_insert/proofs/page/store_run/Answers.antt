use Rattle.std.proofs.Common.{◌≡◌, ◌+◌, length, refl, sym, ◌∙◌, subst, arith}
use Rattle.std.specs.Int.{w64}
use Rattle.std.proofs.lemmas.Int.{to_z-of_z}
use Rattle.std.proofs.lemmas.List.{get_or_default}
use Rattle.page_pool.specs.{Frame}
use Rattle.late_insert.proofs.Filling.{AreStored, stored_more, stored_kept, records-stored, recorded-stored}
use Rattle.late_insert.proofs.Storing.{same_rec}
use Rattle.late_insert.proofs.Summing.{value_fits}
use Rattle.late_insert.proofs.Finding.{no_rec}
use Rattle.late_insert.proofs.page.store_run.Goals as goal
use Rattle.late_insert.proofs.page.store_run.Goals.{in-Kept, in-Late}

pub loop-i-preserved : goal.loop-i-preserved
loop-i-preserved c =
    let run = c.args.run.now in
    let i = c.loop-i.i in
    let f = c.loop-i.frame in
    let back = to_z-of_z w64 _ (value_fits _ (c.requires.range i no_rec c.loop-i-test.true)) in
    let Stored : Frame → Type 0 = λ g. AreStored run (i + 1) g.times g.values g.late in
    elim c.match-rec.branch [
      | in-Kept w ↦ subst Stored (sym w.frame-is)
          (stored_kept run i f.times f.values f.late _ _ c.loop-i.invariant c.loop-i-test.true c.requires.few
          (λ d. same_rec _ _ _ _ _ _ (sym w.in-Kept.is) refl back
          ∙ get_or_default run i no_rec d c.loop-i-test.true))
      | in-Late w ↦ subst Stored (sym w.frame-is)
          (stored_more run i f.times f.values f.late _ _ _ c.loop-i.invariant c.loop-i-test.true c.requires.few
          w.mark_put-frame.ensures.marks
          (λ d. same_rec _ _ _ _ _ _ (w.mark_put-frame.ensures.there ∙ sym w.in-Late.is) refl back
          ∙ get_or_default run i no_rec d c.loop-i-test.true) w.mark_put-frame.ensures.others)
    ]

-- all of the run is stored
stored : (c : goal.After-frame-2-1) → AreStored c.args.run.now (length c.args.run.now) c.loop-i.frame.times
    c.loop-i.frame.values c.loop-i.frame.late
stored c =
    let all : c.loop-i.i ≡ length c.args.run.now = omega (arith, c.loop-i.auto.i-end, c.loop-i-test.false) in
    subst (λ n. AreStored c.args.run.now n c.loop-i.frame.times c.loop-i.frame.values c.loop-i.frame.late) all
    c.loop-i.invariant

pub returns-clause-recorded : goal.returns-clause-recorded
returns-clause-recorded c = recorded-stored _ c.args.run.now refl c.requires.few (stored c) c.requires.range

pub returns-clause-records : goal.returns-clause-records
returns-clause-records c =
    let f = c.loop-i.frame in
    records-stored (record {
      len = length c.args.run.now;
      times = f.times;
      values = f.values;
      late = c.loop-i.frame.late;
      area = f.area;
      low = f.low;
      high = f.high;
    }) c.args.run.now refl (stored c)
