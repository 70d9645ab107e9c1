use Rattle.snapshot_table.specs.{LooksAt, PostsTo}
use Rattle.cell_tests.proofs.boards.unshown.Given as goal

-- the poster and the looker are still those of the board
abbrev pub invariant-loop-row : goal.invariant-loop-row
invariant-loop-row g l = PostsTo l.board l.poster × LooksAt l.board l.looker
