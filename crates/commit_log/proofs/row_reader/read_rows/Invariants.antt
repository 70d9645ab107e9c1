use Rattle.std.proofs.Common.{◌≡◌, ◌+◌, ◌-◌, ◌*◌, ◌≤◌, length}
use Rattle.commit_log.specs.{rows_fields, AddsRows}
use Rattle.archive_file.proofs.FieldLaws.{KeptUpTo}
use Rattle.commit_log.proofs.row_reader.read_rows.Given as goal

abbrev pub invariant-loop : goal.invariant-loop
invariant-loop g l = record {
  place : l.next ≡ l.initial.next + 32 * l.counter;
  within : l.next ≤ length g.C.Rest.rest;
  below : l.counter ≤ l.count;
  added : AddsRows g.C.Rest.rest l.tags l.initial.next l.counter l.initial.rows.items l.rows.items;
  kept : KeptUpTo g.C.Rest.rest (rows_fields g.C.Rest.rest l.tags l.initial.next l.count) (rows_fields g.C.Rest.rest l.tags l.next (l.count - l.counter));
}
