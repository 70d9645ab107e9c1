use Rattle.std.proofs.Common.{arith}
use Rattle.disk_model.proofs.Moments.{after_self, started}
use Rattle.device_layout.specs.{Recovers}
use Rattle.crash_recovery.proofs.Restarts.{gates_now, restart_moments, restart_laid, room_now}
use Rattle.crash_recovery.proofs.seat.Seat.close_stale.Goals as goal

pub restart-requires-clause-room : goal.restart-requires-clause-room
restart-requires-clause-room g c = room_now c.args.self.now _ c.requires.laid

pub restart-requires-clause-gates : goal.restart-requires-clause-gates
restart-requires-clause-gates g c = gates_now c.args.self.now _ c.requires.within c.requires.laid

pub returns-then-not-self-clause-any_moment : goal.returns-then-not-self-clause-any_moment
returns-then-not-self-clause-any_moment g c = λ def s all over. started _ (λ x. Recovers def x s) all

pub returns-in_err-restart-clause-any_moment : goal.returns-in_err-restart-clause-any_moment
returns-in_err-restart-clause-any_moment g c = λ def s all over.
    restart_moments _ _ c.args.self.now c.requires.within c.requires.laid c.restart.ensures.any_moment def s
    all (over c.if-not-self.false)

pub returns-clause-any_moment : goal.returns-clause-any_moment
returns-clause-any_moment g c = λ def s all over.
    restart_moments _ _ c.args.self.now c.requires.within c.requires.laid c.restart.ensures.any_moment def s
    all (over c.if-not-self.false)

pub returns-clause-laid : goal.returns-clause-laid
returns-clause-laid g c = grind (arith, restart_laid)

pub returns-then-not-self-clause-continues : goal.returns-then-not-self-clause-continues
returns-then-not-self-clause-continues g c = after_self _

pub returns-in_err-restart-clause-continues : goal.returns-in_err-restart-clause-continues
returns-in_err-restart-clause-continues g c = c.restart.ensures.any_moment.later

pub returns-clause-continues : goal.returns-clause-continues
returns-clause-continues g c = c.restart.ensures.any_moment.later
