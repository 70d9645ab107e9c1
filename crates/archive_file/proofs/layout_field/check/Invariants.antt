use Rattle.std.proofs.Common.{All, take}
use Rattle.archive_file.specs.{Keeps}
use Rattle.archive_file.proofs.layout_field.check.Given as goal

abbrev pub invariant-loop-field : goal.invariant-loop-field
invariant-loop-field l = All (Keeps l.c) (take l.field-index l.fields)
