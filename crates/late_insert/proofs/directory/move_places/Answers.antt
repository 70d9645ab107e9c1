use Rattle.std.proofs.Common.{◌+◌, ◌-◌, length, take, drop, rules}
use Rattle.std.proofs.lemmas.List.Edits.{map_over_more}
use Rattle.late_insert.proofs.directory.move_places.Goals as goal

pub loop-place-preserved : goal.loop-place-preserved
loop-place-preserved c =
    let ns = c.args.places.now in
    let k = c.args.k + 1 in
    map_over_more (λ n. n + c.args.by) (take (length ns - k) (drop k ns)) c.loop-place.place-items
    c.loop-place.place-index _ c.loop-place-test.true c.loop-place.invariant (search rules)
