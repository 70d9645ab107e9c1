use Rattle.std.proofs.Common.{◌∙◌}
use Rattle.disk_model.specs.{seen}
use Rattle.device_layout.proofs.{Causes.reads_before, Reading.counting_read, Reading.here_at}
use Rattle.device_layout.proofs.layout_reader.counting_slot.Goals as goal

pub returns-clause-slot : goal.returns-clause-slot
returns-clause-slot g c =
    let one = c.in_ok-read_part.ensures in
    let two = c.in_ok-read_part-2.ensures in
    let three = c.in_ok-gates.ensures in
    let s = seen (g.D.Disk.device c.args.dev.now).trace in
    counting_read s _ _ _ _ _ _ one.len two.len three.len (here_at _ _ _ s c.place.ensures one.bytes)
    (here_at _ _ _ s c.place-2.ensures (reads_before _ _ _ _ one.same two.bytes))
    (here_at _ _ _ s c.gate.ensures (reads_before _ _ _ _ (two.same ∙ one.same) three.bytes))
    c.from_be_bytes-first.ensures c.from_be_bytes-second.ensures c.chosen.ensures
