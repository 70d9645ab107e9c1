use Rattle.std.proofs.Common.{◌≡◌, ◌++◌, take, string_bytes}
use Rattle.calc_refresh.specs.{lists_of}
use Rattle.session_report.specs.{reply_lines}
use Rattle.session_report.proofs.replies.put_replies.Given as goal

abbrev pub invariant-loop-reader : goal.invariant-loop-reader
invariant-loop-reader l = string_bytes l.text
    ≡ string_bytes l.initial.text ++ reply_lines l.session l.notes (take l.reader (lists_of l.readers))
