use Rattle.snapshot_table.specs.{PostsTo}
use Rattle.cell_tests.proofs.boards.post_all.Given as goal

abbrev pub invariant-loop : goal.invariant-loop
invariant-loop g l = PostsTo l.board l.poster
