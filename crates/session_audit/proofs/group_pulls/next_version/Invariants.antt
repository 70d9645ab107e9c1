use Rattle.std.proofs.Common.{◌≡◌, ◌≤◌, drop}
use Rattle.session_audit.specs.{reached}
use Rattle.session_audit.proofs.group_pulls.next_version.Given as goal

abbrev pub invariant-loop-place : goal.invariant-loop-place
invariant-loop-place l = record {
  from : l.from ≤ l.place;
  same : reached l.input (drop l.from l.tape) ≡ reached l.input (drop l.place l.tape);
}
