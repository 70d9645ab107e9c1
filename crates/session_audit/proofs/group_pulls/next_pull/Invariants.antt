use Rattle.std.proofs.Common.{◌≡◌, ◌≤◌, drop}
use Rattle.session_audit.specs.{pulled}
use Rattle.session_audit.proofs.group_pulls.next_pull.Given as goal

abbrev pub invariant-loop-place : goal.invariant-loop-place
invariant-loop-place l = record {
  from : l.from ≤ l.place;
  same : pulled l.group (drop l.from l.tape) ≡ pulled l.group (drop l.place l.tape);
}
