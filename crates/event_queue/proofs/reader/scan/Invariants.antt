use Rattle.std.proofs.Common.{◌≡◌, ◌*◌, ◌<◌, min, vec_len}
use Rattle.disk_model.specs.{seen}
use Rattle.event_queue.specs.{IsWithin, IsRead}
use Rattle.event_queue.proofs.reader.scan.Given as goal

abbrev pub invariant-loop-j : goal.invariant-loop-j
invariant-loop-j g l = record {
  same : (g.D.Disk.device l.dev).trace ≡ (g.D.Disk.device l.fn.dev).trace;
  faults : (g.D.Disk.device l.dev).faults ≡ (g.D.Disk.device l.fn.dev).faults;
  handed : (g.D.Disk.device l.dev).handed ≡ (g.D.Disk.device l.fn.dev).handed;
  slots_same : l.scanned.lane.slots ≡ l.slots;
  within : IsWithin l.slots l.taken (min (64 * l.j) l.used) l.scanned;
  read : IsRead l.slots l.taken (seen (g.D.Disk.device l.fn.dev).trace) (min (64 * l.j) l.used) l.scanned;
  long : 64 * l.j < l.used → vec_len l.piece ≡ 1034 * min 64 l.used;
}
