use Rattle.std.proofs.Common.{arith}
use Rattle.std.specs.Prelude.{map}
use Rattle.trend_num.specs.{TagDef}
use Rattle.trend_model.specs.{History.Raw, State.State, State.replay}
use Rattle.disk_model.specs.{During}
use Rattle.disk_model.proofs.Moments.{after_both, during_now}
use Rattle.crash_recovery.specs.{AllRecover, RecoversEither}
use Rattle.device_layout.specs.{AllFit, Recovers}
use Rattle.crash_recovery.proofs.{Places.laid_on, Places.overrun_on, Places.moved, Appends.IsCleared, Appends.IsTaken, Appends.cleared, Appends.taken_cleared, Appends.append_moments, Appends.append_durable, Appends.append_seated}
use Rattle.crash_recovery.proofs.{Restarts.room_now, Turns.either_first, Turns.then_either, seat.Seat.append.Goals.After-append_batch}
use Rattle.crash_recovery.proofs.seat.Seat.append.Given as given
use Rattle.crash_recovery.proofs.seat.Seat.append.Goals as goal

pub close_stale-requires-clause-laid : goal.close_stale-requires-clause-laid
close_stale-requires-clause-laid g c = laid_on c.args.self.now _ c.requires.seated

pub append_batch-requires-clause-room : goal.append_batch-requires-clause-room
append_batch-requires-clause-room g c = room_now c.close_stale.new.self _ c.in_ok-close_stale.ensures.laid

pub returns-in_err-close_stale-clause-any_moment : goal.returns-in_err-close_stale-clause-any_moment
returns-in_err-close_stale-clause-any_moment g c = λ def s all fits. either_first _ _ def s _
    (c.close_stale.ensures.any_moment def s all (overrun_on c.args.self.now _ c.requires.seated))

-- the lane is as it was, or empty
clear : (g : given.Over) (c : After-append_batch g) → IsCleared c.args.self.now c.close_stale.new.self
clear g c = grind (arith, cleared)

-- and takes the values
batch : (g : given.Over) (c : After-append_batch g) → IsTaken c.close_stale.new.self c.args.points.now
batch g c = grind (arith, taken_cleared, clear)

-- a crash on the way leaves what was recovered before, or that with the values
moments : (g : given.Over) (c : After-append_batch g) (def : TagDef) (s : State)
    → AllRecover def (g.D.Disk.device c.args.dev.now).trace s → AllFit def.step s (map Raw c.args.points.now)
    → During (g.D.Disk.device c.args.dev.now).trace (g.D.Disk.device c.append_batch.new.dev).trace
    (RecoversEither def s (replay def.step s (map Raw c.args.points.now)))
moments g c def s all fits =
    then_either _ _ _ def s _ (c.close_stale.ensures.any_moment def s all (overrun_on c.args.self.now _ c.requires.seated))
    (λ now. append_moments c.close_stale.new.self c.args.points.now (batch g c) _ _ c.in_ok-close_stale.ensures.laid
    (c.append_batch.ensures.any_moment (clear g c).free) def s now fits)

pub returns-in-Ok-clause-any_moment : goal.returns-in-Ok-clause-any_moment
returns-in-Ok-clause-any_moment g c = moments g (goal.at.returns-in-Ok-clause-any_moment g c).After-append_batch

pub returns-in-Err-DeviceFault-clause-any_moment : goal.returns-in-Err-DeviceFault-clause-any_moment
returns-in-Err-DeviceFault-clause-any_moment g c = grind (arith, moments)

pub returns-in-Ok-clause-durable : goal.returns-in-Ok-clause-durable
returns-in-Ok-clause-durable g c = λ def s all fits.
    let at = (goal.at.returns-in-Ok-clause-durable g c).After-append_batch in
    append_durable c.close_stale.new.self c.args.points.now (batch g at) _ _ c.in_ok-close_stale.ensures.laid
    (c.append_batch.ensures.any_moment (clear g at).free) c.in-Ok.ensures.settled c.in-Ok.ensures.reads def s
    (during_now _ _ (λ x. Recovers def x s) (c.close_stale.ensures.any_moment def s all
    (overrun_on c.args.self.now _ c.requires.seated))) fits

pub returns-in-Ok-clause-seated : goal.returns-in-Ok-clause-seated
returns-in-Ok-clause-seated g c = grind (arith, batch, moved, append_seated, clear)

pub returns-in-Ok-clause-continues : goal.returns-in-Ok-clause-continues
returns-in-Ok-clause-continues g c = after_both _ _ _ c.close_stale.ensures.continues c.append_batch.ensures.continues

pub returns-in-Err-DeviceFault-clause-continues : goal.returns-in-Err-DeviceFault-clause-continues
returns-in-Err-DeviceFault-clause-continues g c = after_both _ _ _ c.close_stale.ensures.continues c.append_batch.ensures.continues
