-- Records of a tag that no crash takes away.
use Rattle.std.specs.Prelude.{◌≡◌, ℕ, List, length, slice_get, Some, take}
use Rattle.trend_num.specs.{Rec, TagDef}
use Rattle.tag_cell.specs.{Entry, TagOpening, done, cell_start, state_after, cell_walked}
use Rattle.tag_cell.specs.declared.entry.Entry.TheVariants.{Pull}

-- the records of the opening, and of the takes that a tape's commits acknowledge
abbrev pub durable_in : TagDef → TagOpening → List Entry → List Rec
durable_in def o tape = (state_after def.step o (done o (cell_walked (cell_start o) tape))).records

-- each pull of a group on a tape ended at the end of the records that were durable then, by the entries before it
abbrev pub ArePullsDurable : TagDef → TagOpening → List Entry → Type 0
ArePullsDurable def o tape = (place group from upto : ℕ) → slice_get tape place ≡ Some (Pull group from upto)
    → upto ≡ length (durable_in def o (take place tape))
