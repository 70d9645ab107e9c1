-- The status for arguments that could not be read.
use Rattle.std.specs.declared.io.ErrorKind.{ErrorKind}
use Rattle.std.specs.declared.io.ErrorKind.TheVariants.{OutOfMemory}
use Rattle.plant_status.specs.declared.status.Status.{Status}
use Rattle.plant_status.specs.declared.status.Status.TheVariants.{BadWords, WantOfMemory}

-- either there is no memory for them, or one of them is no text
abbrev pub status_of_args : ErrorKind → Status
status_of_args OutOfMemory = WantOfMemory
status_of_args kind = BadWords
