use Rattle.std.proofs.Common.{◌≡◌, map, take, string_bytes}
use Rattle.store_commands.specs.{rows_in, told_from}
use Rattle.store_commands.proofs.trend_lines.trend_text.Given as goal

abbrev pub invariant-loop-place : goal.invariant-loop-place
invariant-loop-place l =
    string_bytes l.text ≡ told_from l.cores (rows_in l.groups) 1 (map (λ queries. queries.items) (take l.place l.readers))
