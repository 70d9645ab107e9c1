use Rattle.std.proofs.Common.{◌≡◌, take}
use Rattle.archive_file.specs.{recs_image}
use Rattle.archive_file.proofs.log.bytes_of.Given as goal

abbrev pub invariant-loop-r : goal.invariant-loop-r
invariant-loop-r l = l.bytes.items ≡ recs_image (take l.r-index l.recs)
