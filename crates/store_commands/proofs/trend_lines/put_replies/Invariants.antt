use Rattle.std.proofs.Common.{◌≡◌, ◌++◌, take, string_bytes}
use Rattle.store_commands.specs.{replies_from, rows_in}
use Rattle.store_commands.proofs.trend_lines.put_replies.Given as goal

abbrev pub invariant-loop-place : goal.invariant-loop-place
invariant-loop-place l =
    string_bytes l.text ≡ string_bytes l.fn.text ++ replies_from l.cores (rows_in l.groups) l.reader 1 (take l.place l.queries)
