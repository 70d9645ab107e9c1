use Rattle.std.proofs.Common.{◌≡◌, ◌++◌, flat_map, string_bytes, take}
use Rattle.trend_report.specs.{last_text}
use Rattle.trend_report.proofs.group_line.put_lasts.Given as goal

abbrev pub invariant-loop-last : goal.invariant-loop-last
invariant-loop-last l =
    string_bytes l.text ≡ string_bytes l.initial.text ++ flat_map (last_text l.line.name l.line.windows) (take l.last-index l.line.lasts.items)
