-- What the turns of a group's tape show of readers; which versions its refreshes reached; and where a group's pulls on
-- a tag's tape ended.
use Rattle.std.specs.Prelude.{ℕ, List, Option, None, Some, filter_map, map, nat_eq, slice_index, if◌then◌else◌}
use Rattle.plant_status.specs.declared.mismatch.Seen.TheVariants as seen
use Rattle.session_audit.specs.declared.kind.Shown.{Shown}
use Rattle.tag_cell.specs.{Entry}
use Rattle.tag_cell.specs.declared.entry.Entry.TheVariants.{Pull}
use Rattle.group_book.specs.{Turn}
use Rattle.group_book.specs.declared.turn.Turn.TheVariants.{Refresh, Ask}

-- the reader of a question, and what the question shows
abbrev pub row_ask_of : Turn → Option Shown
row_ask_of (Ask reader row calc k reply) = Some (record { worker = reader; seen = seen.Row reader row calc k })
row_ask_of other = None

-- the versions that a refresh reached
abbrev pub reached_by : Turn → Option (List ℕ)
reached_by (Refresh versions) = Some versions.items
reached_by other = None

-- the versions that the refreshes of a tape reached, in order
abbrev pub refreshes : List Turn → List (List ℕ)
refreshes tape = filter_map reached_by tape

-- the versions of one input among these
abbrev pub reached : ℕ → List Turn → List ℕ
reached input tape = map (λ versions. slice_index versions input) (refreshes tape)

-- where a pull of a group ended
abbrev pub pull_of : ℕ → Entry → Option ℕ
pull_of group (Pull its from upto) = if nat_eq its group then Some upto else None
pull_of group other = None

-- where the pulls of a group on a tape ended, in order
abbrev pub pulled : ℕ → List Entry → List ℕ
pulled group tape = filter_map (pull_of group) tape
