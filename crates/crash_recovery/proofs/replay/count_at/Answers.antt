use Rattle.std.proofs.Common.{arith}
use Rattle.crash_recovery.proofs.LanePlaces.{count_shown}
use Rattle.crash_recovery.proofs.replay.count_at.Goals as goal

pub returns-clause-count : goal.returns-clause-count
returns-clause-count g c = count_shown (g.D.Disk.device c.args.dev.now).trace _ _ _ _ c.from_be_bytes.result c.min.result (omega (arith, c.slot_start.ensures))
    c.in_ok-bytes.ensures.len c.in_ok-bytes.ensures.bytes c.from_be_bytes.ensures c.min.ensures
