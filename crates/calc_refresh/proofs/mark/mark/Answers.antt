use Rattle.std.proofs.Common.{◌-◌, ◌^◌, nat_le, ap, ◌∙◌, arith}
use Rattle.std.specs.Prelude.{◌&&◌, ◌||◌}
use Rattle.calc_refresh.specs.{is_marked}
use Rattle.calc_refresh.proofs.Marking.{cut_end, marks_span}
use Rattle.calc_refresh.proofs.mark.mark.Goals as goal

pub returns-then-first-marks : goal.returns-then-first-marks
returns-then-first-marks c = λ k within.
    let marks = c.args.marks.now in
    let first = c.args.span.first in
    marks_span marks first c.min-behind.result c.max.result k c.if-first-marks.true (omega arith)
    ∙ ap (λ b. is_marked marks k || (nat_le first k && b)) (cut_end k c.args.span.behind c.min-behind.result (2 ^ 32 - 1) (omega arith) (omega arith))
