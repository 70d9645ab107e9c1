-- Why a step of a session is refused.
use Rattle.std.specs.Prelude.{◌≡◌, ℕ, ◌+◌, ◌<◌, ◌≤◌, List, [], ◌∷◌, length, slice_get, slice_index_or, Option, Some, true, false, nat_eq}
use Rattle.trend_num.specs.{most_records}
use Rattle.trend_num.specs.declared.refusal.What.TheVariants.{Records}
use Rattle.std.specs.List.{count_by}
use Rattle.value_rows.specs.{RawRow}
use Rattle.plant_status.specs.declared.mismatch.Place.TheVariants.{Takes}
use Rattle.plant_status.specs.declared.mismatch.Seen.TheVariants.{Number}
use Rattle.plant_status.specs.declared.unit.Unit.TheVariants.{Tag}
use Rattle.plant_status.specs.declared.status.Status.{Status}
use Rattle.plant_status.specs.declared.status.Status.TheVariants.{DeviceFault, Limit, Mismatch, WantOfMemory}
use Rattle.tag_cell.specs.{CommitNo, TakeNo, taken, ToldCell, takes_waiting}
use Rattle.tag_cell.specs.declared.entry.CommitNo.TheVariants as commit
use Rattle.tag_cell.specs.declared.entry.TakeNo.TheVariants as take_no
use Rattle.session_audit.specs.declared.agenda.Item.{Item}
use Rattle.session_audit.specs.Tapes.{take_of}
use Rattle.session_audit.specs.Workers.{LacksRow}

-- the cell of this tag has this property
pub record IsSo {D : Type 0} (cells : List (ToldCell D)) (tag : ℕ) (P : ToldCell D → Type 0) : Type 0 where
  pub cell : ToldCell D
  pub there : slice_get cells tag ≡ Some cell
  pub so : P cell

-- how many rows of the files are of a tag
abbrev pub tag_rows : ℕ → List (List RawRow) → ℕ
tag_rows tag [] = 0
tag_rows tag (rows ∷ files) = count_by (λ r. nat_eq r.tag tag) rows + tag_rows tag files

-- the status of a tag that has so many takes, of so many rows
abbrev pub takes_mismatch : ℕ → ℕ → ℕ → Status
takes_mismatch tag takes rows = Mismatch (Takes tag) (Number takes) (Number rows)

-- Why a row that is due at a tag, and that its tape lacks, is not taken. The tag's device has failed. Or the tape has no
-- room; the status has the number of its takes, and that of the tag's rows. Or the tag could have too many records.
pub data IsTakeRefusal {D : Type 0} (item_of : ℕ → ℕ → RawRow → Option Item) (files : List (List RawRow)) (cells : List (ToldCell D))
    (why : Status) : Type 0 where
  OfBroken : (tag : ℕ) → why ≡ DeviceFault (Tag tag) → IsSo cells tag (λ c.
      (c.journal.failed ≡ true) × LacksRow take_of item_of files tag c.tape) → IsTakeRefusal item_of files cells why
  OfRoom : (tag takes rows : ℕ) → why ≡ takes_mismatch tag takes rows → IsSo cells tag (λ c.
      (takes ≡ length (taken c.tape)) × (rows ≡ tag_rows tag files) × (takes < rows) × (c.room ≤ takes)
      × LacksRow take_of item_of files tag c.tape) → IsTakeRefusal item_of files cells why
  OfLimit : (tag number : ℕ) → why ≡ Limit Records number → IsSo cells tag (λ c.
      (number ≡ length c.state.records) × (most_records < number + 2) × LacksRow take_of item_of files tag c.tape)
      → IsTakeRefusal item_of files cells why

-- the status of a refused row of a tag whose tape has so many takes, and which has so many rows
abbrev pub take_status : ℕ → ℕ → ℕ → TakeNo → Status
take_status tag takes rows take_no.Broken = DeviceFault (Tag tag)
take_status tag takes rows (take_no.RoomFull room) = takes_mismatch tag takes rows
take_status tag takes rows (take_no.Full records) = Limit Records records

-- no value waits on this cell, and its device has not failed
pub record IsCommittedCell {D : Type 0} (c : ToldCell D) : Type 0 where
  pub none_waits : takes_waiting c ≡ 0
  pub usable : c.journal.failed ≡ false

-- why a commit is refused: the device of the tag has failed, and the tags before it are committed; or memory is wanting
pub data IsCellRefusal {D : Type 0} (cells : List (ToldCell D)) (why : Status) : Type 0 where
  OfFault : (tag : ℕ) → why ≡ DeviceFault (Tag tag) → IsSo cells tag (λ c. c.journal.failed ≡ true)
      → ((k : ℕ) (d : ToldCell D) → k < tag → IsCommittedCell (slice_index_or cells k d)) → IsCellRefusal cells why
  OfMemory : why ≡ WantOfMemory → IsCellRefusal cells why

-- the status of a refused commit of a tag
abbrev pub commit_status : ℕ → CommitNo → Status
commit_status tag commit.Broken = DeviceFault (Tag tag)
commit_status tag commit.DeviceFault = DeviceFault (Tag tag)
commit_status tag commit.WantOfMemory = WantOfMemory
