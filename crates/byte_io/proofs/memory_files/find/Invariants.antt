use Rattle.std.proofs.Common.{◌≡◌, drop}
use Rattle.byte_io.specs.{bytes_of, files_named}
use Rattle.byte_io.proofs.memory_files.find.Given as goal

abbrev pub invariant-loop-file : goal.invariant-loop-file
invariant-loop-file l = bytes_of (files_named l.files) l.name ≡ bytes_of (files_named (drop l.file-index l.files)) l.name
