-- Why a group is not refreshed.
use Rattle.std.specs.Prelude.{◌≡◌, ℕ, ◌<◌, List, [], slice_get, slice_index, slice_index_or, Some, true, ⊤}
use Rattle.trend_num.specs.{Rec}
use Rattle.trend_num.specs.declared.refusal.What.TheVariants.{Cells, Copies}
use Rattle.plant_status.specs.declared.unit.Unit.TheVariants.{Group}
use Rattle.plant_status.specs.declared.mismatch.Place.TheVariants.{Version}
use Rattle.plant_status.specs.declared.mismatch.Seen.TheVariants.{Number}
use Rattle.plant_status.specs.declared.status.Status.{Status}
use Rattle.plant_status.specs.declared.status.Status.TheVariants as status
use Rattle.tag_cell.specs.{PullNo}
use Rattle.tag_cell.specs.declared.entry.PullNo.TheVariants as pull
use Rattle.group_book.specs.{RefreshNo, SaveNo, IsListsRefusal, lists_at, ToldBook as Book}
use Rattle.group_book.specs.declared.refusal.RefreshNo.TheVariants.{Ahead, CellLimit, CopyLimit, WantOfMemory}
use Rattle.group_book.specs.declared.refusal.SaveNo.TheVariants as save
use Rattle.session_audit.specs.Refreshing.{IsRefreshedTo}

-- the refusal of a refresh whose pull of an input was refused
abbrev pub pull_refusal : ℕ → PullNo → RefreshNo
pull_refusal input (pull.Ahead from acked) = Ahead input from acked
pull_refusal input pull.WantOfMemory = WantOfMemory

-- the status of a refused refresh of a group
abbrev pub refresh_status : ℕ → RefreshNo → Status
refresh_status group (Ahead input version records) = status.Mismatch (Version group input) (Number records) (Number version)
refresh_status group (CellLimit cells) = status.Limit Cells cells
refresh_status group (CopyLimit records) = status.Limit Copies records
refresh_status group WantOfMemory = status.WantOfMemory

-- the status of a refused save of a group
abbrev pub save_status : ℕ → SaveNo → Status
save_status group save.Broken = status.DeviceFault (Group group)
save_status group save.DeviceFault = status.DeviceFault (Group group)
save_status group save.WantOfMemory = status.WantOfMemory

-- why a save is refused: the group's device has failed, or memory is wanting
abbrev pub IsSaveCause : {D : Type 0} → Book D → SaveNo → Type 0
IsSaveCause book save.Broken = book.failed ≡ true
IsSaveCause book save.DeviceFault = book.failed ≡ true
IsSaveCause book save.WantOfMemory = ⊤

-- the status is that of a refused save of this group
pub record IsSaveRefusal {D : Type 0} (group : ℕ) (book : Book D) (s : Status) : Type 0 where
  pub why : SaveNo
  pub cause : IsSaveCause book why
  pub told : s ≡ save_status group why

-- the status is that of a refused refresh of this group, or of a refused save
pub data IsBookRefusal {D : Type 0} (durables : List (List Rec)) (tags : List ℕ) (group : ℕ) (book : Book D) (s : Status)
    : Type 0 where
  OfRefresh : (why : RefreshNo) → IsListsRefusal (lists_at durables tags) book why → s ≡ refresh_status group why
      → IsBookRefusal durables tags group book s
  OfSave : IsSaveRefusal group book s → IsBookRefusal durables tags group book s

-- the refusal is that of one group; those before it are refreshed and saved
pub record IsRefreshRefusal {D : Type 0} (durables : List (List Rec)) (inputs : List (List ℕ)) (turns : List ℕ)
    (books : List (Book D)) (s : Status) : Type 0 where
  pub group : ℕ
  pub book : Book D
  pub there : slice_get books group ≡ Some book
  pub front : (k : ℕ) (b : Book D) → k < group
      → IsRefreshedTo durables (slice_index_or inputs k []) (slice_index turns k) (slice_index_or books k b)
  pub refused : IsBookRefusal durables (slice_index_or inputs group []) group book s
