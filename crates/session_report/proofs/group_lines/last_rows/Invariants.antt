use Rattle.std.proofs.Common.{◌≡◌, map, take}
use Rattle.calc_check.specs.Group.{calculation}
use Rattle.calc_refresh.specs.{lists_of}
use Rattle.session_report.specs.{last_rows}
use Rattle.session_report.proofs.group_lines.last_rows.Given as goal

abbrev pub invariant-loop-place : goal.invariant-loop-place
invariant-loop-place l = l.lasts.items ≡ last_rows (map calculation (take l.place l.defs)) (lists_of l.rows)
