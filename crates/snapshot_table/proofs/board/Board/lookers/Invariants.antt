use Rattle.std.proofs.Common.{◌≡◌, replicate}
use Rattle.snapshot_table.specs.{new_looker}
use Rattle.snapshot_table.proofs.board.Board.lookers.Given as goal

abbrev pub invariant-loop : goal.invariant-loop
invariant-loop l = (l.posters.items ≡ l.fn.posters.items) × (l.lookers.items ≡ replicate l.counter (new_looker l.self))
