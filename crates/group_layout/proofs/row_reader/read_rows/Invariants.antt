use Rattle.std.proofs.Common.{◌≡◌, ◌+◌, ◌-◌, ◌*◌, ◌≤◌, All, AllPairs, None, length}
use Rattle.archive_file.specs.{Spells}
use Rattle.group_layout.specs.{IsBefore, IsRow, rows_fields, rows_image}
use Rattle.archive_file.proofs.FieldLaws.{KeptUpTo}
use Rattle.group_layout.proofs.RowLaws.{IsLastOf}
use Rattle.group_layout.proofs.row_reader.read_rows.Given as goal

abbrev pub invariant-loop : goal.invariant-loop
invariant-loop g l = record {
  place : l.next ≡ l.initial.next + 17 * l.counter;
  within : l.next ≤ length g.C.Rest.rest;
  below : l.counter ≤ l.count;
  len : length l.rows.items ≡ l.counter;
  spelled : Spells g.C.Rest.rest l.initial.next (rows_image l.rows.items) l.next;
  each : All (IsRow l.calcs l.windows) l.rows.items;
  sorted : AllPairs IsBefore l.rows.items;
  last : IsLastOf l.rows.items l.last;
  kept : KeptUpTo g.C.Rest.rest (rows_fields g.C.Rest.rest l.calcs l.windows None l.initial.next l.count)
      (rows_fields g.C.Rest.rest l.calcs l.windows l.last l.next (l.count - l.counter));
}
