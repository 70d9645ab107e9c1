use Rattle.std.proofs.Common.{◌≡◌, take}
use Rattle.tag_cell.specs.{last_records}
use Rattle.tag_cell.proofs.batch.records_after.Given as goal

abbrev pub invariant-loop-entry : goal.invariant-loop-entry
invariant-loop-entry l = l.last ≡ last_records l.records (take l.entry-index l.entries)
