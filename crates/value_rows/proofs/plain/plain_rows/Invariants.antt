use Rattle.std.proofs.Common.{All, ◌≤◌, length}
use Rattle.value_rows.specs.{IsRawRow, raw_row, AreFirstRows}
use Rattle.value_rows.proofs.plain.plain_rows.Given as goal

abbrev pub invariant-loop-front : goal.invariant-loop-front
invariant-loop-front l = record {
  first : AreFirstRows (raw_row l.tags) l.bytes l.rest l.rows.items;
  are_rows : All (IsRawRow l.tags) l.rows.items;
  few : length l.rows.items ≤ l.most;
}

abbrev pub decreases-loop-front : goal.decreases-loop-front
decreases-loop-front l = length l.rest
