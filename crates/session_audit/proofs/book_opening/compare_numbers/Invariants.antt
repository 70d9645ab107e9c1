use Rattle.std.proofs.Common.{◌≡◌, take}
use Rattle.session_audit.specs.BookOpenings.{items_of}
use Rattle.session_audit.proofs.book_opening.compare_numbers.Given as goal

abbrev pub invariant-loop-place : goal.invariant-loop-place
invariant-loop-place l = take l.place (items_of l.found) ≡ take l.place (items_of l.known)
