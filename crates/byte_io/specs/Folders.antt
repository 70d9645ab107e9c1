-- How a proof sees the files of a folder: the count of their faults, and nothing of what they hold.
use Rattle.std.specs.Prelude.{ℕ}
use Rattle.byte_io.specs.declared.folder_files.DirFiles.{DirFiles}

-- how many reads have failed
abbrev pub folder_faults : {R : Type 0} → DirFiles R → ℕ
folder_faults files = files.faults
