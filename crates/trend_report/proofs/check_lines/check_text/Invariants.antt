use Rattle.std.proofs.Common.{◌≡◌, length, string_bytes}
use Rattle.trend_report.proofs.CheckLines.{lines_before}
use Rattle.trend_report.proofs.check_lines.check_text.Given as goal

abbrev pub invariant-loop-def : goal.invariant-loop-def
invariant-loop-def l = string_bytes l.text ≡ lines_before l.tags l.cores (length l.yielded)
