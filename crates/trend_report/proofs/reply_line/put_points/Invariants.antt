use Rattle.std.proofs.Common.{◌≡◌, ◌++◌, codes, take, string_bytes}
use Rattle.std.specs.List.{flat_map}
use Rattle.trend_report.specs.{point_text}
use Rattle.trend_report.proofs.reply_line.put_points.Given as goal

abbrev pub invariant-loop-p : goal.invariant-loop-p
invariant-loop-p l = string_bytes l.text ≡ string_bytes l.fn.text
    ++ flat_map (λ p. point_text p ++ codes " ") (take l.p-index l.points.list.items)
