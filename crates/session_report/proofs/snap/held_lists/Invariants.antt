use Rattle.std.proofs.Common.{◌≡◌, take}
use Rattle.calc_refresh.specs.{lists_of}
use Rattle.session_report.specs.{held_lists}
use Rattle.session_report.proofs.snap.held_lists.Given as goal

abbrev pub invariant-loop-place : goal.invariant-loop-place
invariant-loop-place l = lists_of l.lists.items ≡ held_lists (lists_of l.readers) (take l.place l.tags)
