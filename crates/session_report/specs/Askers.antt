-- Who asked the questions that the entries of tapes answer.
use Rattle.std.specs.Prelude.{ℕ, Bool, ◌&&◌, false, List, Option, None, Some, find, nat_eq}
use Rattle.tag_cell.specs.{Entry}
use Rattle.tag_cell.specs.declared.entry.Entry.TheVariants as entry
use Rattle.group_book.specs.{Turn}
use Rattle.group_book.specs.declared.turn.Turn.TheVariants as turn
use Rattle.session_report.specs.declared.asker.Asker.{Asker}

-- who asked the question that an entry of a tag's tape answers, or that a turn of a group answers
abbrev pub tag_asker : Entry → Option Asker
tag_asker (entry.Ask reader row query reply) = Some (record { reader = reader; row = row })
tag_asker other = None

abbrev pub group_asker : Turn → Option Asker
group_asker (turn.Ask reader row calc k reply) = Some (record { reader = reader; row = row })
group_asker other = None

-- this reader asked it, counted from 0, in this row, counted from 1
abbrev pub is_by : ℕ → ℕ → Option Asker → Bool
is_by reader row None = false
is_by reader row (Some a) = nat_eq a.reader reader && nat_eq a.row row

-- the first entry of a tape that answers a row of a reader
abbrev pub first_by : {E : Type 0} → (E → Option Asker) → ℕ → ℕ → List E → Option E
first_by asker reader row tape = find (λ e. is_by reader row (asker e)) tape
