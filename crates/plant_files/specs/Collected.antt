-- What the collectors of a plan take. The values of a collector are the rows of a file.
use Rattle.std.specs.Prelude.{◌≡◌, ◌≢◌, ℕ, ◌+◌, ◌-◌, ◌^◌, ◌<◌, min, List, length, sum_by}
use Rattle.byte_io.specs.{FileTold}
use Rattle.trend_num.specs.declared.refusal.What.TheVariants.{Rows}
use Rattle.trend_num.specs.{InRange}
use Rattle.tag_base.specs.{Base}
use Rattle.value_rows.specs.{raw_rows, RawRow}
use Rattle.plant_status.specs.{FileId}
use Rattle.plant_status.specs.declared.file.FileId.TheVariants.{Collector}
use Rattle.plant_status.specs.declared.status.Status.{Status}
use Rattle.plant_status.specs.declared.status.Status.TheVariants.{Limit, WantOfMemory}
use Rattle.plant_files.specs.RowFiles.{AreRowFiles, IsFirstRefused, IsRowFile, IsRowRefusal, ToldFiles}
use Rattle.plant_files.specs.Texts.{tag_names}

-- the most rows of a collector, and of all collectors together
abbrev pub most_collector_rows : ℕ
most_collector_rows = 4000000

-- a row of a tag of a base, with a point in range
pub record IsRowOfBase (base : Base) (row : RawRow) : Type 0 where
  pub tag : row.tag < length base.tags.items
  pub point : InRange row.point

-- ---- one file

-- the rows of a file over these names of tags
abbrev pub IsCollectorFile : List (List ℕ) → FileTold → List RawRow → Type 0
IsCollectorFile tags told rows = IsRowFile (raw_rows tags most_collector_rows) told rows

-- the status says why the rows of a file are not read
abbrev pub IsCollectorRefusal : List (List ℕ) → FileId → FileTold → Status → Type 0
IsCollectorRefusal tags file told why = IsRowRefusal Rows most_collector_rows (raw_rows tags most_collector_rows) file told why

-- ---- the files of all collectors

-- the rows of files over these names: each file's, in order
abbrev pub AreCollectorFiles : List (List ℕ) → ToldFiles → List (List ℕ) → List (List RawRow) → Type 0
AreCollectorFiles tags told files lists = AreRowFiles (IsCollectorFile tags) told files lists

-- the collector at a place. The number stays at the end of its type
abbrev pub collector_at : ℕ → FileId
collector_at place = Collector (min place (2 ^ 32 - 1))

-- the rows of the first collectors' files are read, and then one file is refused with this status
abbrev pub IsCollectorRefused : List (List ℕ) → ToldFiles → List (List ℕ) → Status → Type 0
IsCollectorRefused tags told files why = IsFirstRefused (IsCollectorFile tags)
    (λ place. IsCollectorRefusal tags (collector_at place)) told files why

-- the rows of files over the names of a base
pub record AreCollectedRows (base : Base) (told : ToldFiles) (files : List (List ℕ))
    (lists : List (List RawRow)) : Type 0 where
  pub read : AreCollectorFiles (tag_names base.tags.items) told files lists

-- the status says why the rows of files are not read; want of memory may come at any time
abbrev pub IsCollectedRefusal : Base → ToldFiles → List (List ℕ) → Status → Type 0
IsCollectedRefusal base told files why =
    why ≢ WantOfMemory → IsCollectorRefused (tag_names base.tags.items) told files why

-- ---- how many rows there are

-- how many rows there are in all lists
abbrev pub row_count : List (List RawRow) → ℕ
row_count lists = sum_by length lists

-- so many rows are more than there may be, and the status says so
pub record AreRowsTooMany (rows : ℕ) (why : Status) : Type 0 where
  pub more : most_collector_rows < rows
  pub told : why ≡ Limit Rows (most_collector_rows + 1)
