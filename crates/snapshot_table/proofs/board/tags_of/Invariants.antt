use Rattle.std.proofs.Common.{◌≡◌, length}
use Rattle.snapshot_table.specs.{new_posters}
use Rattle.snapshot_table.proofs.board.tags_of.Given as goal

abbrev pub invariant-loop-tag : goal.invariant-loop-tag
invariant-loop-tag l = (length l.board ≡ l.tag) × (l.posters.items ≡ new_posters 0 l.board)
