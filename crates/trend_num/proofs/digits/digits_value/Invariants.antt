use Rattle.std.proofs.Common.{take}
use Rattle.trend_num.proofs.Numbers.{IsDigitsValue}
use Rattle.trend_num.proofs.digits.digits_value.Given as goal

abbrev pub invariant-loop-b : goal.invariant-loop-b
invariant-loop-b l = IsDigitsValue l.n l.b-index (take l.b-index l.digits)
