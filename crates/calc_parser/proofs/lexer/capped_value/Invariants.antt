use Rattle.std.proofs.Common.{◌≡◌, ◌+◌, ◌^◌, min, take}
use Rattle.trend_num.specs.{digits_value}
use Rattle.calc_parser.proofs.lexer.capped_value.Given as goal

-- the number of the digits so far, up to one above the greatest
abbrev pub invariant-loop-b : goal.invariant-loop-b
invariant-loop-b l = l.n ≡ min (digits_value (take l.b-index l.digits)) (10 ^ 18 + 1)
