use Rattle.std.proofs.Common.{◌≡◌, ◌+◌, ◌-◌, ◌++◌, length, map, take, drop}
use Rattle.late_insert.proofs.directory.move_places.Given as goal

abbrev pub invariant-loop-place : goal.invariant-loop-place
invariant-loop-place l =
    let rest = take (length l.fn.places - (l.k + 1)) (drop (l.k + 1) l.fn.places) in
    l.place-items ≡ map (λ n. n + l.by) (take l.place-index rest) ++ drop l.place-index rest
