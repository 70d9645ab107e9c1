use Rattle.std.proofs.Common.{Err, ap, arith}
use Rattle.disk_model.specs.{seen}
use Rattle.device_layout.proofs.{Shows.shows, Reading.has_header, Reading.cause_of_scan, Reading.header_broken}
use Rattle.device_layout.proofs.layout_reader.header_of.Goals as goal

pub returns-in-Ok-clause-header : goal.returns-in-Ok-clause-header
returns-in-Ok-clause-header g c = grind (arith, shows, has_header)

pub returns-in-Err-clause-cause : goal.returns-in-Err-clause-cause
returns-in-Err-clause-cause g c def opened =
    let o = (g.D.Disk.device c.args.dev.now).trace in
    let read = c.in_ok-bytes.ensures in
    cause_of_scan def o _ _ c.refusal_of.ensures (λ at byte is. header_broken def _ (seen o) at byte read.len read.bytes
    (omega (arith, c.requires, c.if-len.false)) (c.in-Err.ensures.broken at byte (ap Err is)) opened.opened)
