use Rattle.std.proofs.Common.{arith}
use Rattle.device_layout.proofs.{Reading.cause_of_scan, Causes.records_cause}
use Rattle.device_layout.proofs.layout_reader.records_of.Goals as goal

pub returns-in-Err-clause-cause : goal.returns-in-Err-clause-cause
returns-in-Err-clause-cause g c def slot tuning counts =
    let read = c.in-Err.ensures in
    cause_of_scan def (g.D.Disk.device c.args.dev.now).trace _ _ c.refusal_of.ensures
    (λ at byte is. records_cause def (g.D.Disk.device c.args.dev.now).trace _ _ _ _ _ at byte c.log_start.ensures (grind arith) counts)
