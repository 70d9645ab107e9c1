use Rattle.std.proofs.Common.{arith}
use Rattle.sheet_law.specs.{window_from, window_to}
use Rattle.calc_refresh.proofs.Turns.{newest_touches_none, older_touches_all}
use Rattle.calc_refresh.proofs.taking.touched.Goals as goal

pub returns-in-Kept : goal.returns-in-Kept
returns-in-Kept c = λ rs k read end_is few.
    newest_touches_none rs c.args.rec c.args.end (window_from c.args.grid k) (window_to c.args.grid k) k c.in-Kept.is
    end_is c.if-end-rec.true

pub returns-in-Kept-2 : goal.returns-in-Kept-2
returns-in-Kept-2 c = grind (arith, older_touches_all)
