use Rattle.std.proofs.Common.{◌≡◌, ◌++◌, take, string_bytes}
use Rattle.session_report.specs.{lines_of_each}
use Rattle.session_report.proofs.reported.put_each.Given as goal

abbrev pub invariant-loop-place : goal.invariant-loop-place
invariant-loop-place g l =
    string_bytes l.text ≡ string_bytes l.initial.text ++ lines_of_each g.T.Reported.lines (take l.place l.defs) l.histories
