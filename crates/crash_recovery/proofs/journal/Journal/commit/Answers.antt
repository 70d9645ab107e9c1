use Rattle.std.proofs.Common.{◌≡◌, Result, arith}
use Rattle.trend_num.specs.{TagDef}
use Rattle.trend_model.specs.State.{State}
use Rattle.disk_model.specs.{Trace, Device}
use Rattle.crash_recovery.specs.{AllRecover, LeavesEither}
use Rattle.crash_recovery.proofs.Turns.{either_kept}
use Rattle.crash_recovery.proofs.journal.Journal.commit.Goals as goal

-- what each image recovers, of the device that the journal shows
of_shown : {D T E : Type 0} (device : D → Device) (inside shown : D) (new : Trace) (def : TagDef)
    (s r : State) (result : Result T E) → inside ≡ shown
    → (AllRecover def (device inside).trace s → LeavesEither def (device inside).trace new s r result)
    → AllRecover def (device shown).trace s → LeavesEither def (device shown).trace new s r result
of_shown device inside shown new def s r result same step = grind arith

pub returns-then-is_full-clause-crash : goal.returns-then-is_full-clause-crash
returns-then-is_full-clause-crash g c = λ def s all fits. record {
  any_moment = either_kept _ def s _ all;
  durable = tt;
}

pub returns-in_default-clause-crash : goal.returns-in_default-clause-crash
returns-in_default-clause-crash g c = grind (arith, of_shown)

pub returns-clause-crash : goal.returns-clause-crash
returns-clause-crash g c = grind (arith, of_shown)
