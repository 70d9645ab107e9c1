use Rattle.std.proofs.Common.{◌∙◌, arith}
use Rattle.core.proofs.dec2flt.Eight.{lanes_are, first_other, shifted_is}
use Rattle.point_text.proofs.plain_line.more_digits.Goals as goal

pub returns-then-others-eq5-clause-read : goal.returns-then-others-eq5-clause-read
returns-then-others-eq5-clause-read c xs eight is =
    let first = first_other xs _ eight is _ c.flags_from_ten-others.ensures (omega (arith, c.if-others-ne0.true)) in
    let s = shifted_is xs 5 c.keep_first.result eight (omega arith) (omega (arith, first.0)) (c.keep_first.ensures ∙ rw (lanes_are xs _ eight is)) in
    (omega (arith, first.0), c.value_of_eight.ensures s.0 s.1 s.2 ∙ s.3)
