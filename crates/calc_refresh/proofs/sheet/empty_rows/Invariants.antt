use Rattle.std.proofs.Common.{◌≡◌, [], replicate}
use Rattle.calc_refresh.specs.{lists_of}
use Rattle.calc_refresh.proofs.sheet.empty_rows.Given as goal

abbrev pub invariant-loop : goal.invariant-loop
invariant-loop l = lists_of l.rows.items ≡ replicate l.counter []
