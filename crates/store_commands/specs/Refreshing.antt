-- Books that are refreshed once from lists of records.
use Rattle.std.specs.Prelude.{◌≡◌, ℕ, ◌*◌, ◌<◌, ◌≤◌, List, length, slice_index_or}
use Rattle.trend_num.specs.{Rec}
use Rattle.trend_num.specs.declared.refusal.What.TheVariants.{Cells, Copies}
use Rattle.sheet_law.specs.{complete_windows}
use Rattle.calc_refresh.specs.{GroupDefParts, total_length, grid_of, most_cells, most_copies}
use Rattle.group_book.specs.{RefreshNo, lists_at, cut, ToldBook as Book, versions_of}
use Rattle.group_book.specs.declared.refusal.RefreshNo.TheVariants.{Ahead, CellLimit, CopyLimit, WantOfMemory}
use Rattle.plant_status.specs.declared.status.Status.{Status}
use Rattle.plant_status.specs.declared.status.Status.TheVariants as status

-- a book has the first records of its tags, as many as its versions say
pub record IsCutBook {D : Type 0} (records : List (List Rec)) (b : Book D) : Type 0 where
  pub copies : b.sheet.copies ≡ cut (versions_of b) (lists_at records b.tags)

-- the same for each book
abbrev pub AreCutBooks : {D : Type 0} → List (List Rec) → List (Book D) → Type 0
AreCutBooks records books = (i : ℕ) (b : Book _) → i < length books → IsCutBook records (slice_index_or books i b)

-- how many cells a group of this definition has over these records
abbrev pub book_cells : GroupDefParts → List (List Rec) → ℕ
book_cells def recovered = complete_windows (grid_of def.start def.period) recovered * length def.calcs.calcs

-- so many cells over these records pass no limit
pub record AreWithinLimits (cells : ℕ) (recovered : List (List Rec)) : Type 0 where
  pub few_cells : cells ≤ most_cells
  pub few_copies : total_length recovered ≤ most_copies

-- a book has all records of its tags, which pass no limit, and nothing has changed but its sheet and its tape
pub record IsRefreshedOnce {D : Type 0} (records : List (List Rec)) (old new : Book D) : Type 0 where
  pub copies : new.sheet.copies ≡ lists_at records old.tags
  pub within : AreWithinLimits (book_cells old.def (lists_at records old.tags)) (lists_at records old.tags)
  pub changed : new ≡ record old { tape = new.tape; sheet = new.sheet }

-- the same for each book
abbrev pub AreRefreshedOnce : {D : Type 0} → List (List Rec) → List (Book D) → List (Book D) → Type 0
AreRefreshedOnce records old new = (i : ℕ) (b : Book _) → i < length old
    → IsRefreshedOnce records (slice_index_or old i b) (slice_index_or new i b)

-- each book has the device and the text that it had
pub record HaveDevicesOf {D : Type 0} (old new : List (Book D)) : Type 0 where
  pub as_many : length new ≡ length old
  pub each : (i : ℕ) (b : Book D) → (slice_index_or new i b).dev ≡ (slice_index_or old i b).dev
  pub texts : (i : ℕ) (b : Book D) → (slice_index_or new i b).text ≡ (slice_index_or old i b).text

-- why a refresh from all these records is refused: there would be so many cells, too many; or else too many records; or
-- no memory
abbrev pub IsOverIn : ℕ → List (List Rec) → RefreshNo → Type 0
IsOverIn cells recovered (Ahead input version records) = ⊥
IsOverIn cells recovered (CellLimit number) = (number ≡ cells) × (most_cells < number)
IsOverIn cells recovered (CopyLimit number) = (cells ≤ most_cells) × (number ≡ total_length recovered) × (most_copies < number)
IsOverIn cells recovered WantOfMemory = Unit {0}

-- the status of a refused refresh
abbrev pub refresh_status : RefreshNo → Status
refresh_status (Ahead input version records) = status.WantOfMemory
refresh_status (CellLimit cells) = status.Limit Cells cells
refresh_status (CopyLimit records) = status.Limit Copies records
refresh_status WantOfMemory = status.WantOfMemory

-- one of the books refuses its refresh, with this status; those before it pass no limit
pub record IsOverSome {D : Type 0} (records : List (List Rec)) (books : List (Book D)) (s : Status) : Type 0 where
  pub i : ℕ
  pub why : RefreshNo
  pub there : i < length books
  pub front : (k : ℕ) (b : Book D) → k < i → AreWithinLimits (book_cells (slice_index_or books k b).def (lists_at records (slice_index_or books k b).tags))
      (lists_at records (slice_index_or books k b).tags)
  pub over : (b : Book D) → IsOverIn (book_cells (slice_index_or books i b).def (lists_at records (slice_index_or books i b).tags))
      (lists_at records (slice_index_or books i b).tags) why
  pub told : s ≡ refresh_status why
