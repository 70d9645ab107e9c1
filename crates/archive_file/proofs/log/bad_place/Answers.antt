use Rattle.std.proofs.Common.{◌≡◌, ◌≤◌, inr, refl, ap, drop, arith}
use Rattle.std.proofs.lemmas.List.{take_rest}
use Rattle.trend_num.specs.{last_time}
use Rattle.archive_file.specs.{point_at}
use Rattle.archive_file.proofs.Logs.{value_breaks}
use Rattle.archive_file.proofs.log.bad_place.Goals as goal

pub returns-else-point-gt-MAX_T-clause-breaks : goal.returns-else-point-gt-MAX_T-clause-breaks
returns-else-point-gt-MAX_T-clause-breaks c =
    let b = c.args.b.now in
    let p : c.take_point.result.0 ≡ point_at (drop 1 b) = grind (arith, take_rest) in
    let time : (point_at (drop 1 b)).t ≤ last_time = omega (arith, c.if-point-gt-MAX_T.false, ap (λ q. q.t) p)
    in
    inr (inr (
      refl,
      (c.in-Some.field-0, c.in-Some.ensures.some),
      time,
      value_breaks b c.in-Some.field-0 c.requires.len (λ i. omega (arith, c.type_inv.b i))
          c.in-Some.ensures.some time c.requires.none,
    ))
