-- Books whose devices are given back, and the histories that they leave.
use Rattle.std.specs.Prelude.{◌≡◌, ℕ, ◌<◌, true, false, List, [], ◌∷◌, length, slice_index_or, string_bytes, Option, None, Some, String, IfSome}
use Rattle.std.specs.declared.alloc.Global.{Global}
use Rattle.disk_model.specs.{Rose, sum_of_counts, Trace, Device}
use Rattle.calc_refresh.specs.{lists_of, grid_of}
use Rattle.group_book.specs.{GroupHistory, BookBeganWell, IsBookHistory, IsOnDevice, ToldBook, device_name_of, trace_of, versions_of, moment_of, faults_of}
use Rattle.plant_store.specs.Groups.{DeviceTraces}

-- This is the history of the group of a book, on the book's device. The book's sheet is that of its definition. If the
-- book has failed, the device has counted one fault since the opening. Otherwise it has counted none.
-- It was handed out under the name of the group's device, and began well.
pub record IsHistoryOfBook {D : Type 0} (device : D → Device) (b : ToldBook D) (h : GroupHistory) : Type 0 where
  pub group : h.group ≡ b.group
  pub def : h.def ≡ b.def
  pub text : h.text.items ≡ b.text
  pub opening : h.opening ≡ b.opening
  pub tape : h.tape.items ≡ b.tape
  pub versions : h.versions.items ≡ versions_of b
  pub copies : lists_of h.copies.items ≡ b.sheet.copies
  pub rows : lists_of h.rows.items ≡ b.sheet.rows
  pub evals : h.evals ≡ b.sheet.evals
  pub same_group : b.sheet.group ≡ b.def.calcs
  pub same_grid : b.sheet.grid ≡ grid_of b.def.start b.def.period
  pub history : IsBookHistory h (trace_of device b.dev) (moment_of device b.dev) (faults_of device b.dev)
  pub there : IsOnDevice b.text b.dev
  pub rose : b.failed ≡ true → Rose b.opening.faults (faults_of device b.dev)
  pub faultless : b.failed ≡ false → faults_of device b.dev ≡ b.opening.faults
  pub named : IfSome b.dev (λ dev. (device dev).handed.name ≡ Some (device_name_of b.text))
  pub begun : BookBeganWell device b.text b.def b.opening b.dev

-- there is one history for each book, at the same place
pub record AreHistoriesOf {D : Type 0} (device : D → Device) (books : List (ToldBook D))
    (histories : List GroupHistory) : Type 0 where
  pub as_many : length histories ≡ length books
  pub each : (i : ℕ) (b : ToldBook D) (h : GroupHistory) → i < length books
      → IsHistoryOfBook device (slice_index_or books i b) (slice_index_or histories i h)

-- the trace under a name after a book's device was given back under it; the old trace if the book has no device
abbrev pub trace_after : {D : Type 0} → (D → Device) → Option D → Trace → Trace
trace_after device None old = old
trace_after device (Some dev) old = (device dev).trace

-- the device of a book was given back under this name, if it is the name of the device of the book's group; these are the
-- traces under the name before and after
abbrev pub IsBackUnder : {D : Type 0} → (D → Device) → ToldBook D → List ℕ → Trace → Trace → Type 0
IsBackUnder device b name old new = name ≡ device_name_of b.text → new ≡ trace_after device b.dev old

-- the device of each book was given back under the name at its place
abbrev pub AreGivenBack : {D : Type 0} → (D → Device) → List (String Global) → List (ToldBook D) → DeviceTraces → DeviceTraces → Type 0
AreGivenBack {D} device names books old new = (i : ℕ) (b : ToldBook D) (s : String Global) → i < length books
    → IsBackUnder device (slice_index_or books i b) (string_bytes (slice_index_or names i s))
    (old (string_bytes (slice_index_or names i s))) (new (string_bytes (slice_index_or names i s)))

-- a count of faults plus those of a device, if there is one
abbrev pub count_after : {D : Type 0} → (D → Device) → Option D → ℕ → ℕ
count_after device None before = before
count_after device (Some dev) before = sum_of_counts before (device dev).faults

-- a count of faults plus those of the devices of these books, in order
abbrev pub counts_after : {D : Type 0} → (D → Device) → List (ToldBook D) → ℕ → ℕ
counts_after device [] before = before
counts_after device (b ∷ bs) before = counts_after device bs (count_after device b.dev before)
