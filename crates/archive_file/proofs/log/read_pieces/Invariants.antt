use Rattle.std.proofs.Common.{◌≡◌, ◌+◌, ◌-◌, ◌≤◌, vec_len, vec_capacity}
use Rattle.disk_model.specs.{seen}
use Rattle.archive_file.specs.{Adds}
use Rattle.archive_file.proofs.log.read_pieces.Given as goal

abbrev pub invariant-loop-done : goal.invariant-loop-done
invariant-loop-done g l = record {
  added :
      Adds (seen (g.D.Disk.device l.initial.dev).trace) l.at l.done l.initial.recs.items l.recs.items;
  within : l.done ≤ l.count;
  same : (g.D.Disk.device l.dev).trace ≡ (g.D.Disk.device l.initial.dev).trace;
  faults : (g.D.Disk.device l.dev).faults ≡ (g.D.Disk.device l.initial.dev).faults;
  handed : (g.D.Disk.device l.dev).handed ≡ (g.D.Disk.device l.initial.dev).handed;
  len : vec_len l.recs ≡ vec_len l.initial.recs + l.done;
  capacity : vec_capacity l.recs ≡ vec_capacity l.initial.recs;
}

abbrev pub decreases-loop-done : goal.decreases-loop-done
decreases-loop-done g l = l.count - l.done
