use Rattle.std.proofs.Common.{sym, arith}
use Rattle.std.proofs.lemmas.List.{length-map}
use Rattle.std.proofs.lemmas.Option.{slice_get_past}
use Rattle.trend_num.specs.{Rec}
use Rattle.trend_model.specs.{points_of}
use Rattle.late_insert.specs.{page_records_of}
use Rattle.late_insert.proofs.Nearest.{point_get}
use Rattle.late_insert.proofs.gap.first_from.Goals as goal

pub returns-then-gap-len-clause-value : goal.returns-then-gap-len-clause-value
returns-then-gap-len-clause-value c =
    let l = page_records_of c.args.pool.now c.args.pages.now.items in
    sym (slice_get_past (points_of l) c.args.gap.place
    (omega (arith, c.requires.counted, length-map l (λ (r : Rec). r.point))))

pub returns-clause-value : goal.returns-clause-value
returns-clause-value c =
    let l = page_records_of c.args.pool.now c.args.pages.now.items in
    sym (point_get l c.args.gap.place c.rec_near.result (omega (arith, c.requires.bound, c.requires.counted))
    (c.rec_near.ensures.value c.rec_near.result))
