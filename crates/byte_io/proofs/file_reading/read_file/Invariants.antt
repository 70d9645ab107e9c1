use Rattle.std.proofs.Common.{◌≡◌, ◌≤◌, ◌+◌, ◌-◌, vec_len}
use Rattle.byte_io.proofs.FilePiece.{IsRead}
use Rattle.byte_io.proofs.file_reading.read_file.Given as goal

abbrev pub invariant-loop-count : goal.invariant-loop-count
invariant-loop-count g l = record {
  within : vec_len l.all ≤ l.limit;
  read : IsRead (g.F.Files.told l.initial.files l.name) l.all.items;
  stays : g.F.Files.told l.files ≡ g.F.Files.told l.initial.files;
  no_fault : g.F.Files.fault_count l.files ≡ g.F.Files.fault_count l.initial.files;
}

abbrev pub decreases-loop-count : goal.decreases-loop-count
decreases-loop-count g l = l.limit + 1 - vec_len l.all
