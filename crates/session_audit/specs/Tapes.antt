-- What the entries of a tag's tape show of collectors and of readers.
use Rattle.std.specs.Prelude.{Option, None, Some}
use Rattle.plant_status.specs.declared.mismatch.Seen.TheVariants as seen
use Rattle.session_audit.specs.declared.kind.Shown.{Shown}
use Rattle.tag_cell.specs.{Entry}
use Rattle.tag_cell.specs.declared.entry.Entry.TheVariants.{Take, Ask}

-- the collector of a take, and what the take shows
abbrev pub take_of : Entry → Option Shown
take_of (Take collector row point held records) = Some (record { worker = collector; seen = seen.Take collector row point })
take_of other = None

-- the reader of a question, and what the question shows
abbrev pub ask_of : Entry → Option Shown
ask_of (Ask reader row query reply) = Some (record { worker = reader; seen = seen.Ask reader row query })
ask_of other = None
