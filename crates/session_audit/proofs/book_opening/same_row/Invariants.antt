use Rattle.std.proofs.Common.{◌≡◌, take}
use Rattle.session_audit.proofs.book_opening.same_row.Given as goal

abbrev pub invariant-loop-k : goal.invariant-loop-k
invariant-loop-k l = take l.k l.a ≡ take l.k l.b
