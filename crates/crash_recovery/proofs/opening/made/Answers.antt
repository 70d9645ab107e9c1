use Rattle.std.proofs.Common.{arith}
use Rattle.disk_model.proofs.Moments.{started}
use Rattle.device_layout.proofs.LayoutMoments.{new_now, new_recovers}
use Rattle.crash_recovery.proofs.NewSeats.{made_seated}
use Rattle.crash_recovery.proofs.opening.made.Goals as goal

pub returns-in_default-clause-any_moment : goal.returns-in_default-clause-any_moment
returns-in_default-clause-any_moment g c = grind (arith, new_recovers, started, new_now)

pub returns-clause-seated : goal.returns-clause-seated
returns-clause-seated g c = grind (arith, made_seated)
