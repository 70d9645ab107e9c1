use Rattle.std.proofs.Common.{◌+◌, ◌*◌, ◌<◌, ◌≤◌, length, arith}
use Rattle.device_layout.proofs.{Shows.shows, Causes.reads_before}
use Rattle.crash_recovery.proofs.LanePlaces.{value_told}
use Rattle.crash_recovery.proofs.replay.overfull.Goals as goal

pub returns-in-Ok-read_part-clause-value : goal.returns-in-Ok-read_part-clause-value
returns-in-Ok-read_part-clause-value g c taken holds =
    let there = shows (g.D.Disk.device c.args.dev.now).trace (λ c'. 400 + 1035 * c.args.slots ≤ length c') (λ c'. c.in-Ok.at < length c')
    (λ c' long. omega (arith, long, c.in-Ok.ensures.end)) c.requires.there in
    rw c.damaged.ensures (grind (arith, value_told, reads_before))
