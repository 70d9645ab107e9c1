use Rattle.std.proofs.Common.{Err, ap}
use Rattle.device_layout.proofs.{Shows.shows₃, Reading.summary_broken, Reading.here_at}
use Rattle.device_layout.proofs.layout_reader.counted.Goals as goal

pub returns-in-Err-Damaged-clause-cause : goal.returns-in-Err-Damaged-clause-cause
returns-in-Err-Damaged-clause-cause g c def slots made layout counts =
    let read = c.in_ok-bytes.ensures in
    let broken = c.in-Err-Damaged.ensures.broken _ _ (ap Err c.in-Err-Damaged.field-0-is) in
    rw c.place-in-Err-Damaged.ensures
    (shows₃ (g.D.Disk.device c.args.dev.now).trace _ _ _ _ (λ c' here has is.
    summary_broken def slots made _ _ c' _ _ read.len (here_at _ _ _ c' c.place.ensures here) broken has is) read.bytes layout counts)
