use Rattle.std.proofs.Common.{◌≡◌, drop, Some, sym, ap, ◌∙◌, subst, arith, rules}
use Rattle.std.proofs.lemmas.List.{take_rest}
use Rattle.trend_num.specs.{InRange}
use Rattle.archive_file.specs.{point_at, rec_image}
use Rattle.archive_file.proofs.Points.{rec_here, rec_outside}
use Rattle.archive_file.proofs.record.read_rec.Goals as goal

pub returns-then-in_range : goal.returns-then-in_range
returns-then-in_range c =
    let b = c.args.b.now in
    let p : c.take_point.result.0 ≡ point_at (drop 1 b) = c.take_point.ensures.point
    ∙ ap point_at (take_rest b 1) in
    let inside : InRange (point_at (drop 1 b)) = let here : InRange c.take_point.result.0 =
    search rules in subst InRange p here in
    λ r. subst (λ q. (Some (record { kind = c.in_ok-kind.kind; point = q }) ≡ Some r → InRange r.point
    × (b ≡ rec_image r))
    × (InRange r.point × (b ≡ rec_image r) → Some (record { kind = c.in_ok-kind.kind; point = q }) ≡ Some r))
    (sym p)
    (rec_here b c.in_ok-kind.kind c.requires (λ i. omega (arith, c.type_inv.b i)) c.in_ok-kind.ensures.some
    inside r)

pub returns-else-in_range : goal.returns-else-in_range
returns-else-in_range c =
    let b = c.args.b.now in
    let p : c.take_point.result.0 ≡ point_at (drop 1 b) = c.take_point.ensures.point
    ∙ ap point_at (take_rest b 1) in
    λ r. rec_outside b c.in_ok-kind.kind c.in_ok-kind.ensures.some
    (λ inside. let here : InRange c.take_point.result.0 = subst InRange (sym p) inside in search rules) r
