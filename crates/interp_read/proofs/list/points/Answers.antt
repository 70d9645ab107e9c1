use Rattle.std.proofs.Common.{◌≡◌, ◌∙◌, ◌^◌, ◌-◌, ◌<◌, ◌≤◌, ap, take, length, nat_lt, rules, arith, sym}
use Rattle.std.specs.Prelude.{◌↔◌, IsTrue}
use Rattle.std.proofs.lemmas.Bool.{lt-ltb, ltb-true}
use Rattle.std.proofs.lemmas.List.{length-map}
use Rattle.trend_model.specs.{points_of, points_from_to}
use Rattle.interp_read.proofs.Listing.{copied_first, left_over}
use Rattle.interp_read.proofs.list.points.Goals as goal
use Rattle.interp_read.proofs.list.points.Goals.{After-completed}

-- the list begins with the first 256 points, and says whether more are left
listed : (c : After-completed)
    → (c.in_ok-list.list.items ≡ take 256 (points_from_to (points_of c.args.content.now.records) c.args.from c.args.to))
    × (IsTrue (nat_lt c.min-stop.result c.places_from_to-places.result.end)
    ↔ (256 < length (points_from_to (points_of c.args.content.now.records) c.args.from c.args.to)))
listed c =
    let l = c.args.content.now.records in
    let ps = points_of l in
    let start = c.places_from_to-places.result.start in
    let end = c.places_from_to-places.result.end in
    let stop = c.min-stop.result in
    let few : end ≤ 2 ^ 32 - 1 = search rules in
    let within : end ≤ length ps = omega
    (arith, c.places_from_to-places.ensures.within, length-map l (λ r. r.point)) in
    let is = c.places_from_to-places.ensures.points in
    let left = left_over ps start end stop 256 (omega arith) few within in
    let long = ap length is in (
      c.in_ok-list.ensures ∙ (copied_first ps start end stop 256 (omega arith) few ∙ ap (take 256) (sym is)),
      (
        λ h. let some = left.0 (ltb-true stop end h) in omega (arith, some, long),
        λ h. lt-ltb stop end (left.1 (omega (arith, h, long))),
      ),
    )

pub returns-clause-list : goal.returns-clause-list
returns-clause-list c =
    let is = listed (goal.at.returns-clause-list c).After-completed in
    rw c.held_from_to.ensures (c.completed.ensures.list _ is.0 is.1)

pub returns-clause-more : goal.returns-clause-more
returns-clause-more c =
    let is = listed (goal.at.returns-clause-more c).After-completed in
    rw c.held_from_to.ensures (c.completed.ensures.more _ is.0 is.1)
