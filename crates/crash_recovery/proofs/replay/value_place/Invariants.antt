use Rattle.std.proofs.Common.{◌≡◌, ℕ}
use Rattle.disk_model.specs.{Shows}
use Rattle.crash_recovery.specs.{HoldsValue}
use Rattle.crash_recovery.proofs.LanePlaces.{IsCountedTo}
use Rattle.crash_recovery.proofs.replay.value_place.Given as goal

abbrev pub invariant-loop-j : goal.invariant-loop-j
invariant-loop-j g l = record {
  same : (g.D.Disk.device l.dev).trace ≡ (g.D.Disk.device l.fn.dev).trace;
  faults : (g.D.Disk.device l.dev).faults ≡ (g.D.Disk.device l.fn.dev).faults;
  handed : (g.D.Disk.device l.dev).handed ≡ (g.D.Disk.device l.fn.dev).handed;
  counted : (taken : ℕ) → Shows (g.D.Disk.device l.fn.dev).trace (HoldsValue l.slots taken l.used l.number)
      → Shows (g.D.Disk.device l.fn.dev).trace (IsCountedTo l.slots taken l.number l.j l.rest);
}
