-- What the rows read so far amount to. Only private functions cite it.
use Rattle.std.specs.Prelude.{◌≡◌, ℕ, ◌+◌, ◌≤◌, Bool, false, if◌then◌else◌, List, [], ◌∷◌, ◌++◌, length, map, take, None, Some, nat_eq, Result, Ok, Err}
use Rattle.trend_num.specs.{most_records, Point, Reason}
use Rattle.trend_model.specs.{Origin}
use Rattle.trend_model.specs.State.{Stands}
use Rattle.tag_core.specs.Core.{Core}
use Rattle.byte_io.specs.Outside.{Outside, CountsNoFault, Takes, TakesAll}
use Rattle.std.specs.Io.KnownBytes.{IsAtEnd}
use Rattle.point_text.specs.{line_points_of, reads_of, RowNo}
use Rattle.point_text.specs.declared.failure.RowNo.TheVariants.{BadRow, TooMany}
use Rattle.pack_command.specs.Pack.{first_full, history_of, most_input_bytes, most_rows}
use Rattle.pack_command.specs.declared.intake.Standing.{Standing}
use Rattle.pack_command.specs.declared.intake.Standing.TheVariants.{Taken, Full, Refused}

-- what may follow the bytes that were read: anything, or nothing at the end of the input
abbrev pub MayCome : Bool → List ℕ → Type 0
MayCome further more = further ≡ false → more ≡ []

-- whatever follows, the lines of these bytes read as these points, and then as the lines of what is left
pub record IsReadUpTo (further : Bool) (bytes rest : List ℕ) (found : List Point) : Type 0 where
  pub reads : (more : List ℕ) → MayCome further more → reads_of (bytes ++ more) ≡ map (λ p. Ok p) found ++ reads_of (rest ++ more)

-- whatever follows, the first line of what is left reads so, and the others are the lines of what comes after it
pub record IsNextRow (further : Bool) (rest after : List ℕ) (read : Result Point Reason) : Type 0 where
  pub reads : (more : List ℕ) → MayCome further more → reads_of (rest ++ more) ≡ read ∷ reads_of (after ++ more)

-- whatever follows, the rows of these bytes are refused for this reason
pub record AreRefused (further : Bool) (bytes : List ℕ) (why : RowNo) : Type 0 where
  pub refused : (more : List ℕ) → MayCome further more → line_points_of most_rows (bytes ++ more) ≡ Err why

-- the values of these points were all taken
pub record AreTaken (o : Origin) (core : Core) (found : List Point) : Type 0 where
  pub kind : core.step ≡ o.step
  pub stands : Stands o (history_of found) core.state
  pub room : first_full o (history_of found) ≡ None

-- what the rows of these bytes amount to; `rest` is the part of them that is left
abbrev pub HasCome : Bool → Origin → List ℕ → List ℕ → Core → ℕ → Standing → Type 0
HasCome further o bytes rest core rows Taken =
    (found : List Point) × IsReadUpTo further bytes rest found × (length found ≡ rows) × AreTaken o core found
HasCome further o bytes rest core rows (Full number) =
    (found : List Point) × IsReadUpTo further bytes rest found × (length found ≡ rows) × (first_full o (history_of found) ≡ Some number)
HasCome further o bytes rest core rows (Refused why) = AreRefused further bytes why

-- a core that has memory for all that may be kept, after so many rows
pub record IsReady (core : Core) (rows : ℕ) : Type 0 where
  pub few : rows ≤ most_rows
  pub counted : core.state.summary.taken ≤ rows
  pub records : length core.state.records ≤ most_records
  pub places : core.spare + length core.state.records ≡ most_records + 2

-- the point of the row after so many, or why the rows are refused
abbrev pub numbered : ℕ → Result Point Reason → Result Point RowNo
numbered rows (Ok p) = Ok p
numbered rows (Err reason) = Err (BadRow (rows + 1) reason)

abbrev pub point_of_row : ℕ → Result Point Reason → Result Point RowNo
point_of_row rows read = if nat_eq rows most_rows then Err (TooMany (most_rows + 1)) else numbered rows read

-- these bytes were taken from the input, and no read failed
pub record AreTakenFrom (before now : Outside) (bytes : List ℕ) (count : ℕ) : Type 0 where
  pub taken : Takes before now bytes
  pub no_fault : CountsNoFault before now
  pub counted : length bytes ≡ count

-- so many bytes were read into a buffer, after those at its front
pub record IsReadAfter (before now : Outside) (begun n : ℕ) (old new : List ℕ) : Type 0 where
  pub piece : List ℕ
  pub taken : Takes before now piece
  pub ended : n ≡ 0 → IsAtEnd now.content
  pub no_fault : CountsNoFault before now
  pub counted : length piece ≡ n
  pub front : take (begun + n) new ≡ take begun old ++ piece

-- all of the input was read, and its rows amount to this
pub record IsAllRead (o : Origin) (before now : Outside) (core : Core) (rows : ℕ) (standing : Standing) : Type 0 where
  pub bytes : List ℕ
  pub whole : TakesAll before now bytes
  pub no_fault : CountsNoFault before now
  pub within : length bytes ≤ most_input_bytes
  pub few : rows ≤ most_rows
  pub come : HasCome false o bytes [] core rows standing
