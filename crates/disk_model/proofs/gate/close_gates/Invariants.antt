use Rattle.std.proofs.Common.{◌≡◌, ◌+◌, ◌≤◌}
use Rattle.disk_model.specs.{Shows, open_gates, moment}
use Rattle.disk_model.proofs.Closings.{AreClosed}
use Rattle.disk_model.proofs.gate.close_gates.Given as goal

abbrev pub invariant-loop-k : goal.invariant-loop-k
invariant-loop-k g l = record {
  closed : AreClosed l.at l.count l.k (g.D.Disk.device l.fn.dev).trace (g.D.Disk.device l.dev).trace;
  later : moment (g.D.Disk.device l.fn.dev).trace ≤ moment (g.D.Disk.device l.dev).trace;
  clock : moment (g.D.Disk.device l.dev).trace ≤ moment (g.D.Disk.device l.fn.dev).trace + l.k;
  calls : Shows (g.D.Disk.device l.fn.dev).trace (λ c. moment (g.D.Disk.device l.dev).trace ≡ moment (g.D.Disk.device l.fn.dev).trace + open_gates l.at l.k c);
  faultless : (g.D.Disk.device l.dev).faults ≡ (g.D.Disk.device l.fn.dev).faults;
  handed : (g.D.Disk.device l.dev).handed ≡ (g.D.Disk.device l.fn.dev).handed;
}
