use Rattle.std.proofs.Common.{◌≡◌, ◌-◌, ◌<◌, drop}
use Rattle.disk_model.specs.{HasLength, Shows, seen}
use Rattle.archive_file.proofs.BlockFiles.{IsReadTo}
use Rattle.archive_file.proofs.block_file.read_blocks.Given as goal

-- the bytes from the gate on
abbrev pub ghosts-read_block : goal.ghosts-read_block
ghosts-read_block g a = record { rest = drop a.gate (seen (g.D.Disk.device a.dev.now).trace) }

abbrev pub invariant-walk : goal.invariant-walk
invariant-walk g l = record {
  walked : Shows (g.D.Disk.device l.initial.dev).trace (λ c. IsReadTo g.R.BlockReader.adds c l.initial.reader l.initial.next l.reader l.next);
  ready : g.R.BlockReader.is_ready l.reader;
  low : l.next < l.len;
  long : HasLength (g.D.Disk.device l.initial.dev).trace l.len;
  same : (g.D.Disk.device l.dev).trace ≡ (g.D.Disk.device l.initial.dev).trace;
  faults : (g.D.Disk.device l.dev).faults ≡ (g.D.Disk.device l.initial.dev).faults;
  handed : (g.D.Disk.device l.dev).handed ≡ (g.D.Disk.device l.initial.dev).handed;
}

abbrev pub decreases-walk : goal.decreases-walk
decreases-walk g l = l.len - l.next
