use Rattle.snapshot_table.specs.{LooksAt}
use Rattle.cell_tests.proofs.boards.looks_rise.Given as goal

abbrev pub invariant-loop : goal.invariant-loop
invariant-loop g l = LooksAt l.board l.looker
