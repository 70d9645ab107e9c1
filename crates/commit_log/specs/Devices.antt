-- The device of a log.
use Rattle.std.specs.Prelude.{ℕ, List, codes}

-- the name of the log's device
abbrev pub log_name : List ℕ
log_name = codes "plant.log"
