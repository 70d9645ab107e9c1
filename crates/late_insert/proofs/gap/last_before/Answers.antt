use Rattle.std.proofs.Common.{◌≡◌, ◌+◌, ◌-◌, sym, arith}
use Rattle.trend_model.specs.{points_of}
use Rattle.late_insert.specs.{page_records_of}
use Rattle.late_insert.proofs.Nearest.{point_get}
use Rattle.late_insert.proofs.Ranges.{last_take}
use Rattle.late_insert.proofs.gap.last_before.Goals as goal

pub returns-clause-value : goal.returns-clause-value
returns-clause-value c =
    let l = page_records_of c.args.pool.now c.args.pages.now.items in
    let n = c.args.gap.place in
    let r = c.rec_near.result in
    let whole : n ≡ n - 1 + 1 = omega arith in
    let there = point_get l (n - 1) r (omega (arith, c.requires.bound)) (c.rec_near.ensures.value r) in
    sym (rw whole (last_take (points_of l) (n - 1) r.point there))
