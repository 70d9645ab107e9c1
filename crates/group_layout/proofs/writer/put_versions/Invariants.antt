use Rattle.std.proofs.Common.{◌≡◌, ◌++◌, take}
use Rattle.group_layout.specs.{versions_image}
use Rattle.group_layout.proofs.writer.put_versions.Given as goal

abbrev pub invariant-loop-version : goal.invariant-loop-version
invariant-loop-version l = l.bytes.items ≡ l.initial.bytes.items ++ versions_image (take l.version-index l.versions)
