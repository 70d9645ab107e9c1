use Rattle.std.proofs.Common.{Err, length, ap, arith, length-drop}
use Rattle.disk_model.specs.{seen}
use Rattle.archive_file.proofs.Windows.{breaks_low}
use Rattle.archive_file.proofs.block_file.read_block.Goals as goal

pub behind-requires : goal.behind-requires
behind-requires g c = λ a byte is.
    omega (
      arith,
      breaks_low _ _ a byte (c.in-Err.ensures.damaged a byte (ap Err is)),
      ap length c.requires.rest,
      length-drop c.args.gate (seen (g.D.Disk.device c.args.dev.now).trace),
      c.requires.length,
      c.requires.gate,
    )
