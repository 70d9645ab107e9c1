use Rattle.std.proofs.Common.{◌≡◌, ◌+◌, ◌-◌, ℕ, List, true, min, Ok, subst, sym, arith}
use Rattle.std.proofs.lemmas.Bool.{false≢true}
use Rattle.tag_core.specs.Core.{Core}
use Rattle.trend_model.specs.{Origin}
use Rattle.pack_command.specs.{HasCome, IsReady, Intake, most_rows}
use Rattle.pack_command.specs.declared.intake.Standing.TheVariants.{Taken}
use Rattle.pack_command.proofs.Coming.{end_more, next_fed, ready_more, row_here, row_taken}
use Rattle.pack_command.proofs.intake.Intake.take_plain_lines.Goals as goal
use Rattle.pack_command.proofs.intake.Intake.take_plain_lines.Goals.{else-loop-left-test, then-loop-left-test+in-None-1, then-loop-left-test+in-Some+in-Err}

pub loop-left-preserved : goal.loop-left-preserved
loop-left-preserved g c =
    let here = c.loop-left.invariant in
    let first = c.in-Some.ensures.point in
    let old = c.loop-left.self.core in
    let new = c.take.new.self in
    let rows = most_rows - c.loop-left.left in
    let taken = c.in-Ok.ensures in
    let count : min (rows + 1) most_rows ≡ most_rows - (c.loop-left.left - 1) = omega (arith, here.few) in
    let other : rows ≡ most_rows → ⊥ = λ full. absurd (omega (arith, here.few)) in
    record {
      few = omega (arith, here.few);
      ready = subst (IsReady new) count
          (ready_more old new rows _ here.ready other taken.one.counted taken.one.added taken.one.few (λ full. absurd (false≢true (taken.one.full.1 full))) taken.one.room);
      standing = here.standing;
      within = omega (arith, here.within, c.in-Some.ensures.shorter);
      end = end_more c.args.text.now c.loop-left.rest.now first.line c.in-Some.after.now here.end here.within first.cut;
      come = λ o bytes was. subst (λ (n : ℕ). HasCome true o bytes c.in-Some.after.now new n Taken) count
          (row_taken true o bytes c.loop-left.rest.now c.in-Some.after.now old new rows (Ok c.in-Some.point) c.in-Some.point (here.come o bytes was)
          (next_fed true c.loop-left.rest.now c.in-Some.after.now (Ok c.in-Some.point) first) here.ready.few (row_here rows c.in-Some.point other)
          taken.one.step (λ h kind stands. taken.stands o h kind stands) (λ full. absurd (false≢true (taken.one.full.1 full))));
    }

-- what has come to an intake that takes each value has come to the same intake
come_same_intake : (o : Origin) (bytes rest : List ℕ) (rows : ℕ) (old new : Intake) → new ≡ old → old.standing ≡ Taken
    → HasCome true o bytes rest old.core rows Taken → HasCome true o bytes rest new.core rows new.standing
come_same_intake o bytes rest rows old new same standing come = grind arith

pub returns-clause-come : goal.returns-clause-come
returns-clause-come g c = λ o bytes was.
    let self = c.loop-left.self in
    let rest = c.loop-left.rest.now in
    let rows = most_rows - c.loop-left.left in
    let start = subst (HasCome true o bytes c.args.text.now c.args.self.now.core c.args.self.now.rows) c.in-Taken.is was in
    let come : HasCome true o bytes rest self.core rows Taken = c.loop-left.invariant.come o bytes start in
    elim c.loop-left-test.branch [
      | else-loop-left-test w ↦ come_same_intake o bytes rest rows self _ w.self-is c.loop-left.invariant.standing come
      | then-loop-left-test+in-None-1 w ↦ come_same_intake o bytes rest rows self _ w.self-is c.loop-left.invariant.standing come
      | then-loop-left-test+in-Some+in-Err w ↦
          come_same_intake o bytes rest rows (record self { core = w.take.new.self }) _ w.self-is c.loop-left.invariant.standing
          (subst (λ (k : Core). HasCome true o bytes rest k rows Taken) (sym w.in-Err.ensures.one.unchanged) come)
    ]
