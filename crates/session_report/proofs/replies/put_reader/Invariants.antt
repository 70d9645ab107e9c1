use Rattle.std.proofs.Common.{◌≡◌, ◌++◌, take, string_bytes}
use Rattle.session_report.specs.{replies_to}
use Rattle.session_report.proofs.replies.put_reader.Given as goal

abbrev pub invariant-loop-place : goal.invariant-loop-place
invariant-loop-place l = string_bytes l.text
    ≡ string_bytes l.initial.text ++ replies_to l.session l.notes l.reader (take l.place l.queries)
