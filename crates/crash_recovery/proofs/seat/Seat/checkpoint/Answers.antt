use Rattle.trend_num.specs.{TagDef}
use Rattle.trend_model.specs.State.{State}
use Rattle.disk_model.specs.{Traces.Trace, Traces.moment, Moments.ComesAfter, Moments.During, Calls.Shows}
use Rattle.disk_model.proofs.Moments.{after_both, after_self, during_now}
use Rattle.device_layout.specs.{Recovers}
use Rattle.crash_recovery.specs.{AllRecover, GoesOnFrom, RecoversEither, log_calls}
use Rattle.std.proofs.Common.{◌≡◌, ◌+◌, ap, arith, subst, length}
use Rattle.crash_recovery.proofs.Turns.{either_kept, either_first, then_same, then_either, then_second}
use Rattle.crash_recovery.proofs.seat.Seat.checkpoint.Goals.{After-close_stale-2, After-log_records}
use Rattle.crash_recovery.proofs.{Calls.checkpoint_counted, Done.done_recovers, Places.laid_on, Places.overrun_on, Places.seated_on}
use Rattle.crash_recovery.proofs.seat.Seat.checkpoint.Given as given
use Rattle.crash_recovery.proofs.seat.Seat.checkpoint.Goals as goal

-- each image recovers what it did before, until the records are written
logged : (g : given.Over) (c : After-log_records g) (def : TagDef) (s : State)
    → AllRecover def (g.D.Disk.device c.args.dev.now).trace s
    → During (g.D.Disk.device c.args.dev.now).trace (g.D.Disk.device c.log_records.new.dev).trace (λ x. Recovers def x s)
logged g c def s all = then_same _ _ _ def s
    (c.close_stale.ensures.any_moment def s all (overrun_on c.args.self.now _ c.requires.seated))
    (λ now. c.log_records.ensures.any_moment def s now)

pub returns-then-has_all_of-clause-any_moment : goal.returns-then-has_all_of-clause-any_moment
returns-then-has_all_of-clause-any_moment g c = λ small def s all goes. either_kept _ def s _ all

pub returns-then-has_all_of-clause-durable : goal.returns-then-has_all_of-clause-durable
returns-then-has_all_of-clause-durable g c = λ small def s all goes.
    let is = c.has_all_of.ensures.0 c.if-has_all_of.true in
    done_recovers c.args.self.now _ def s c.args.core.now.step c.args.core.now.state c.requires.seated is.0
    is.1 goes all

pub returns-then-taken-self-clause-any_moment : goal.returns-then-taken-self-clause-any_moment
returns-then-taken-self-clause-any_moment g c = λ small def s all goes. either_kept _ def s _ all

pub close_stale-requires-clause-laid : goal.close_stale-requires-clause-laid
close_stale-requires-clause-laid g c = laid_on c.args.self.now _ c.requires.seated

pub returns-in_default-clause-any_moment : goal.returns-in_default-clause-any_moment
returns-in_default-clause-any_moment g c = λ small def s all goes.
    either_first _ _ def s _ (c.close_stale.ensures.any_moment def s all
    (overrun_on c.args.self.now _ c.requires.seated))

pub returns-in_err-log_records-clause-any_moment : goal.returns-in_err-log_records-clause-any_moment
returns-in_err-log_records-clause-any_moment g c = grind (arith, logged, either_first)

pub returns-in_err-log_records-clause-kept : goal.returns-in_err-log_records-clause-kept
returns-in_err-log_records-clause-kept g c = λ is def s all.
    let logged = logged g (goal.at.returns-in_err-log_records-clause-kept g c).After-log_records def s all in
    during_now _ _ (λ x. Recovers def x s) logged

pub returns-in_err-log_records-clause-still_seated : goal.returns-in_err-log_records-clause-still_seated
returns-in_err-log_records-clause-still_seated g c = grind (arith, seated_on)

pub returns-in_default-put_summary-clause-any_moment : goal.returns-in_default-put_summary-clause-any_moment
returns-in_default-put_summary-clause-any_moment g c = λ small def s all goes.
    let logged = logged g (goal.at.returns-in_default-put_summary-clause-any_moment g c).After-log_records def s all in
    then_either _ _ _ def s _ logged (λ now. c.put_summary.ensures.any_moment def s now goes)

-- once the summary counts, each image recovers the core
counted : (g : given.Over) (c : After-close_stale-2 g) (def : TagDef) (s : State)
    → During (g.D.Disk.device c.args.dev.now).trace (g.D.Disk.device c.log_records.new.dev).trace (λ x. Recovers def x s)
    → GoesOnFrom def s c.args.core.now.step c.args.core.now.state
    → During (g.D.Disk.device c.put_summary.new.dev).trace (g.D.Disk.device c.close_stale-2.new.dev).trace (λ x. Recovers def x c.args.core.now.state)
counted g c def s logged goes =
    let now = during_now _ _ (λ x. Recovers def x s) logged in
    c.close_stale-2.ensures.any_moment def c.args.core.now.state (c.in-Ok-put_summary.ensures.durable def s now goes)
    (λ stale. c.in-Ok-put_summary.ensures.overrun def s now goes)

-- and each one until then either state
either : (g : given.Over) (c : After-close_stale-2 g) (def : TagDef) (s : State)
    → During (g.D.Disk.device c.args.dev.now).trace (g.D.Disk.device c.log_records.new.dev).trace (λ x. Recovers def x s)
    → GoesOnFrom def s c.args.core.now.step c.args.core.now.state
    → During (g.D.Disk.device c.args.dev.now).trace (g.D.Disk.device c.close_stale-2.new.dev).trace (RecoversEither def s c.args.core.now.state)
either g c def s logged goes = then_second _ _ _ def s _
    (then_either _ _ _ def s _ logged (λ now. c.put_summary.ensures.any_moment def s now goes)) (counted g c def s logged goes)

pub returns-in_default-close_stale-clause-any_moment : goal.returns-in_default-close_stale-clause-any_moment
returns-in_default-close_stale-clause-any_moment g c = λ small def s all goes.
    let here = goal.at.returns-in_default-close_stale-clause-any_moment g c in
    either g here.After-close_stale-2 def s (logged g here.After-log_records def s all) goes

pub returns-clause-any_moment : goal.returns-clause-any_moment
returns-clause-any_moment g c = λ small def s all goes.
    let here = goal.at.returns-clause-any_moment g c in
    either g here.After-close_stale-2 def s (logged g here.After-log_records def s all) goes

pub returns-clause-durable : goal.returns-clause-durable
returns-clause-durable g c = λ small def s all goes.
    let here = goal.at.returns-clause-durable g c in
    let counted = counted g here.After-close_stale-2 def s (logged g here.After-log_records def s all) goes in
    during_now _ _ (λ x. Recovers def x c.args.core.now.state) counted

pub returns-clause-seated : goal.returns-clause-seated
returns-clause-seated g c = grind (arith, seated_on)

pub returns-clause-calls : goal.returns-clause-calls
returns-clause-calls g c = λ more.
    checkpoint_counted c.args.self.now c.close_stale.new.self c.in-Ok-put_summary.seat (record {
      within = c.requires.within;
      kept = c.close_stale.ensures.kept;
      restarted = c.in-Ok.ensures.restarted;
      used = c.in-Ok-put_summary.ensures.same_lane.1;
      fresh = c.in-Ok-put_summary.ensures.stale;
      overtaken = c.in-Ok-put_summary.ensures.overtaken;
    }) (length c.args.core.now.state.records) _ _ _ _ _ _ _ _ _ c.requires.seated
    (λ fresh. ap (λ d. (g.D.Disk.device d).trace) (c.close_stale.ensures.idle fresh)) c.in-Ok.ensures.calls c.in-Ok.ensures.front
    (subst (λ rs. Shows (g.D.Disk.device c.close_stale.new.dev).trace (λ b. moment (g.D.Disk.device c.log_records.new.dev).trace
    ≡ moment (g.D.Disk.device c.close_stale.new.dev).trace + log_calls c.close_stale.new.self (length rs) b)) c.recs.ensures.value
    c.in_ok-log_records.ensures.calls) c.in_ok-log_records.ensures.gates c.in-Ok-put_summary.ensures.clock c.in-Ok-put_summary.ensures.gates
    c.in-Ok-close_stale.ensures.calls

pub returns-then-has_all_of-clause-continues : goal.returns-then-has_all_of-clause-continues
returns-then-has_all_of-clause-continues g c = after_self _

pub returns-then-taken-self-clause-continues : goal.returns-then-taken-self-clause-continues
returns-then-taken-self-clause-continues g c = after_self _

pub returns-in_err-log_records-clause-continues : goal.returns-in_err-log_records-clause-continues
returns-in_err-log_records-clause-continues g c = after_both _ _ _ c.close_stale.ensures.continues c.log_records.ensures.continues

-- once the records are written
then_logged : (g : given.Over) (c : After-log_records g) → ComesAfter (g.D.Disk.device c.args.dev.now).trace (g.D.Disk.device c.log_records.new.dev).trace
then_logged g c = after_both _ _ _ c.close_stale.ensures.continues c.log_records.ensures.continues

pub returns-in_default-put_summary-clause-continues : goal.returns-in_default-put_summary-clause-continues
returns-in_default-put_summary-clause-continues g c =
    after_both _ _ _ (then_logged g (goal.at.returns-in_default-put_summary-clause-continues g c).After-log_records)
    c.put_summary.ensures.continues

-- and once the gates are closed
then_closed : (g : given.Over) (c : After-close_stale-2 g) (o : Trace)
    → ComesAfter o (g.D.Disk.device c.log_records.new.dev).trace → ComesAfter o (g.D.Disk.device c.close_stale-2.new.dev).trace
then_closed g c o before = after_both _ _ _ (after_both _ _ _ before c.put_summary.ensures.continues) c.close_stale-2.ensures.continues

pub returns-in_default-close_stale-clause-continues : goal.returns-in_default-close_stale-clause-continues
returns-in_default-close_stale-clause-continues g c = grind (arith, then_closed, then_logged)

pub returns-clause-continues : goal.returns-clause-continues
returns-clause-continues g c = grind (arith, then_closed, then_logged)
