use Rattle.std.proofs.Common.{◌≡◌, ℕ, ◌+◌, ◌*◌, ◌<◌, ◌≤◌, drop, get_or, length}
use Rattle.archive_file.specs.{Spells}
use Rattle.group_layout.specs.{version_fields, versions_image}
use Rattle.archive_file.proofs.FieldLaws.{KeptUpTo}
use Rattle.group_layout.proofs.reader.read_versions.Given as goal

abbrev pub invariant-loop-least : goal.invariant-loop-least
invariant-loop-least g l = record {
  place : l.next ≡ l.initial.next + 4 * l.least-index;
  within : l.next ≤ length g.C.Rest.rest;
  len : length l.versions.items ≡ l.least-index;
  rises : (k : ℕ) → k < l.least-index → get_or l.before k 0 ≤ get_or l.versions.items k 0;
  spelled : Spells g.C.Rest.rest l.initial.next (versions_image l.versions.items) l.next;
  kept : KeptUpTo g.C.Rest.rest (version_fields g.C.Rest.rest l.before l.initial.next) (version_fields g.C.Rest.rest (drop l.least-index l.before) l.next);
}
