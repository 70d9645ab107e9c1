use Rattle.run_command.proofs.Crossing.{groups_sync}
use Rattle.run_command.specs.contracts.phase.work_over as own
use Rattle.run_command.proofs.phase.work_over.Goals as goal

pub run_session-requires-sync-G : goal.run_session-requires-sync-G
run_session-requires-sync-G g c κs within =
    record { shared = (groups_sync (own.D-row g.row.D g.row.P g.row.R g.row.P-One) g.D.Disk c.type_bounds.send-D).shared }
