use Rattle.std.proofs.Common.{◌≡◌, map, take, replicate}
use Rattle.crossbeam_utils.specs.Seq.{cell_view}
use Rattle.snapshot_table.specs.{View, Shown, nothing}
use Rattle.snapshot_table.proofs.board.Board.looker.Given as goal

abbrev pub invariant-loop-i : goal.invariant-loop-i
invariant-loop-i l = (l.posters.items ≡ l.fn.posters.items)
    × (map (λ p. p.table_id) l.passes.items ≡ take l.i l.self)
    × (map (λ p. (cell_view {T = Shown} {V = View} p).snap) l.passes.items ≡ replicate l.i nothing)
