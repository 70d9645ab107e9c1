use Rattle.std.proofs.Common.{◌≡◌, drop}
use Rattle.session_audit.specs.{acked_at_pull}
use Rattle.session_audit.proofs.first_pulls.acked_at_pull.Given as goal

abbrev pub invariant-loop-entry : goal.invariant-loop-entry
invariant-loop-entry l = acked_at_pull l.last (drop l.entry-index l.tape) ≡ acked_at_pull l.taken l.tape
