use Rattle.std.proofs.Common.{◌≡◌, take}
use Rattle.calc_refresh.specs.{lists_of}
use Rattle.session_audit.proofs.book_opening.rows_copy.Given as goal

abbrev pub invariant-loop-row : goal.invariant-loop-row
invariant-loop-row l = lists_of l.list.items ≡ lists_of (take l.row-index l.rows)
