-- The book of one group, which `frames` opens, refreshes once, and closes.
use Rattle.std.proofs.Common.{IfSome, ◌≡◌, ◌≢◌, inl, inr, ℕ, ◌^◌, ◌<◌, ◌≤◌, All, List, [], length, map, get_or, Some, refl, sym, ap, ap₂, subst, ◌∙◌, arith}
use Rattle.std.specs.Prelude.{slice_get}
use Rattle.std.proofs.lemmas.Bool.{cases_lt}
use Rattle.std.proofs.lemmas.List.{get_or_past, length-map}
use Rattle.std.proofs.lemmas.List.Elements.{All-map, All-nil}
use Rattle.std.proofs.lemmas.Option.{get_or_from_slice_get, slice_get_within}
use Rattle.trend_num.specs.{InRange, Rec, CalcValue}
use Rattle.disk_model.specs.{Rose, Trace, Device}
use Rattle.sheet_law.specs.{complete_windows}
use Rattle.calc_refresh.specs.{GroupDefParts, lists_of, IsCopy, grid_of}
use Rattle.calc_refresh.proofs.Refreshing.{complete_is_time}
use Rattle.group_layout.specs.{GainsGroupSync}
use Rattle.tag_base.specs.{GroupDef}
use Rattle.group_book.specs.{GroupHistory, LoadNo, RefreshNo, lists_at, IsBookCause, cut, ToldBook, device_name_of}
use Rattle.group_book.specs.declared.refusal.LoadNo.TheVariants as no
use Rattle.group_book.specs.declared.refusal.RefreshNo.TheVariants.{Ahead, CellLimit, CopyLimit, WantOfMemory}
use Rattle.group_book.proofs.Evaluations.{cut_windows}
use Rattle.plant_store.specs.BookEndings.{IsHistoryOfBook, trace_after}
use Rattle.plant_store.specs.BookRefusals.{status_of}
use Rattle.plant_store.specs.Groups.{IsBookOpened, device_name, group_parts_of, input_records_of, group_definition_text}
use Rattle.plant_store.proofs.BookCauses.{back_is}
use Rattle.store_commands.specs.{AreTimes, AreWithinLimits, IsOverIn, IsRefreshedOnce, book_cells, refresh_status}
use Rattle.store_commands.specs.FrameRows.{AreFrameRows, HasStood, IsFrameRowsRefusal, OfCells, OfCopies, OfDamage, OfFault, OfMemory, OfVersion, OfWindows}
use Rattle.store_commands.specs.GroupRows.{AreRowsTold, cells_of}
use Rattle.store_commands.proofs.Books.{rows_told}

-- ---- a group that is not opened

-- the status reports why
pub not_opened : (i : ℕ) (g : GroupDef) (recovered : List (List Rec)) (o p : Trace) (before now : ℕ) (why : LoadNo)
    → IsBookCause (group_definition_text g) (group_parts_of g) recovered o why
    → (why ≢ no.DeviceFault → why ≢ no.WantOfMemory → GainsGroupSync (group_definition_text g) o p)
    → (before < 2 ^ 64 → why ≡ no.DeviceFault → Rose before now)
    → IsFrameRowsRefusal i g recovered o p before now (status_of i why)
not_opened i g recovered o p before now no.DeviceFault cause synced rose = OfFault refl (λ small. rose small refl)
not_opened i g recovered o p before now (no.Damaged at byte) cause synced rose =
    OfDamage at byte refl (cause, synced (λ is. absurd (cc (is))) (λ is. absurd (cc (is))))
not_opened i g recovered o p before now (no.Ahead input version records) cause synced rose =
    OfVersion input records version refl (cause, synced (λ is. absurd (cc (is))) (λ is. absurd (cc (is))))
not_opened i g recovered o p before now (no.Shape windows rows) cause synced rose =
    OfWindows windows rows refl (cause, synced (λ is. absurd (cc (is))) (λ is. absurd (cc (is))))
not_opened i g recovered o p before now no.WantOfMemory cause synced rose = OfMemory refl

-- ---- rows

-- a row among rows of one length
long_row : (n : ℕ) (rows : List (List CalcValue)) (k : ℕ) (row : List CalcValue) → All (λ r. length r ≡ n) rows
    → slice_get rows k ≡ Some row → length row ≡ n
long_row n rows k row all is =
    ap length (sym (get_or_from_slice_get rows k row [] is)) ∙ all k [] (slice_get_within rows k row is)

-- ---- records

-- the records of each input can be copied if those of each tag can
pub inputs_copied : (records : List (List Rec)) (tags : List ℕ) → All IsCopy records → All IsCopy (map (λ tag. get_or records tag []) tags)
inputs_copied records tags all = All-map IsCopy (λ tag. get_or records tag []) tags (λ k d below. one (get_or tags k d))
  where
    one : (tag : ℕ) → IsCopy (get_or records tag [])
    one tag = elim (cases_lt tag (length records)) [
      | inl below ↦ all tag [] below
      | inr past ↦ subst IsCopy (sym (get_or_past records tag [] past))
          (record { short = omega arith; range = All-nil (λ (r : Rec). InRange r.point) })
    ]

-- so a window that they complete ends at a time
pub all_times : (g : GroupDef) (recovered : List (List Rec)) (n : ℕ) → 1 ≤ g.period → 0 < length recovered → All IsCopy recovered
    → n ≡ complete_windows (grid_of g.start g.period) recovered → AreTimes g n
all_times g recovered n some input copied long k below =
    complete_is_time (grid_of g.start g.period) recovered k some input copied (omega (arith, below, long))

-- ---- the book

module _ {D : Type 0} (device : D → Device) (i : ℕ) (g : GroupDef) (records : List (List Rec)) (o : Trace)
    (b : ToldBook D) (opened : IsBookOpened device i g (input_records_of records g) o b) where
  -- its saved rows have a value for each window that these complete
  pub saved_windows : b.sheet.grid ≡ grid_of b.def.start b.def.period
      → All (λ row. length row ≡ complete_windows (grid_of g.start g.period) (cut b.opening.versions.items (input_records_of records g)))
      (lists_of b.opening.rows.items)
  saved_windows same_grid =
      let w = same_grid ∙ ap (λ (d : GroupDefParts). grid_of d.start d.period) opened.def in
      subst (λ rows. All (λ row. length row ≡ complete_windows (grid_of g.start g.period) (cut b.opening.versions.items (input_records_of records g))) rows)
      opened.rows
      (subst (λ n. All (λ row. length row ≡ n) b.sheet.rows) (ap₂ complete_windows w opened.copies) opened.whole.windows)

  -- its device comes back, and what holds of the device's calls holds of those under its name
  pub given_back : (c : ToldBook D) (mid new : Trace) (P : Trace → Type 0) → c.dev ≡ b.dev → new ≡ trace_after device c.dev mid
      → IfSome b.dev (λ d. P (device d).trace) → P new
  given_back c mid new P dev given holds =
      subst P (sym (given ∙ ap (λ d. trace_after device d mid) dev)) (back_is device b.dev mid P opened.has_device holds)

  -- the same after a refresh
  pub refreshed_back : (c : ToldBook D) (mid new : Trace) (P : Trace → Type 0) → IsRefreshedOnce records b c
      → (device_name g.name ≡ device_name_of c.text → new ≡ trace_after device c.dev mid)
      → IfSome b.dev (λ d. P (device d).trace) → P new
  refreshed_back c mid new P once given = given_back c mid new P (ap (λ x. x.dev) once.changed)
      (given (sym opened.named ∙ ap (λ x. device_name_of x.text) (sym once.changed)))

  -- both rows of a calculation, after a refresh
  pub rows_of_book : (c : ToldBook D) (h : GroupHistory) (k : ℕ) (saved refreshed : List CalcValue) → IsRefreshedOnce records b c
      → IsHistoryOfBook device c h → b.sheet.grid ≡ grid_of b.def.start b.def.period
      → length b.tags ≡ length b.sheet.copies → 1 ≤ g.period → slice_get (lists_of h.opening.rows.items) k ≡ Some saved
      → slice_get (lists_of h.rows.items) k ≡ Some refreshed
      → AreFrameRows g k (input_records_of records g) o saved refreshed
  rows_of_book c h k saved refreshed once told same_grid inputs some saved_is refreshed_is = record {
    opening = b.opening;
    rows = lists_of h.rows.items;
    opened = opened.opening;
    rows_are = rows;
    complete = complete;
    grown = omega (arith, complete, first, grow);
    saved_is = was;
    refreshed_is = refreshed_is;
  }
    where
      rows : AreRowsTold g (input_records_of records g) b.opening (lists_of h.rows.items)
      rows =
          rows_told device i g (input_records_of records g) o b c h opened (once.copies ∙ ap (lists_at records) opened.tags)
          (subst (λ (l : List (List Rec)). AreWithinLimits (book_cells b.def l) l) (ap (lists_at records) opened.tags) once.within)
          once.changed told

      complete : length refreshed ≡ complete_windows (grid_of g.start g.period) (input_records_of records g)
      complete = long_row _ (lists_of h.rows.items) k refreshed rows.rows_are.windows refreshed_is

      was : slice_get (lists_of b.opening.rows.items) k ≡ Some saved
      was = subst (λ x. slice_get (lists_of x.rows.items) k ≡ Some saved) (told.opening ∙ ap (λ x. x.opening) once.changed) saved_is

      first : length saved ≡ complete_windows (grid_of g.start g.period) (cut b.opening.versions.items (input_records_of records g))
      first = long_row _ (lists_of b.opening.rows.items) k saved (saved_windows same_grid) was

      many : length (input_records_of records g) ≡ length b.opening.versions.items
      many =
          length-map g.inputs.items (λ tag. get_or records tag []) ∙ ap length (sym opened.tags) ∙ inputs
          ∙ sym (length-map b.sheet.copies length) ∙ ap length (sym opened.versions)

      grow : complete_windows (grid_of g.start g.period) (cut b.opening.versions.items (input_records_of records g))
          ≤ complete_windows (grid_of g.start g.period) (input_records_of records g)
      grow = cut_windows (grid_of g.start g.period) b.opening.versions.items (input_records_of records g) some (sym many)

  -- or a refusal
  pub over_book : (p : Trace) (before now : ℕ) (why : RefreshNo) → b.sheet.grid ≡ grid_of b.def.start b.def.period
      → GainsGroupSync (group_definition_text g) o p
      → IsOverIn (book_cells b.def (lists_at records b.tags)) (lists_at records b.tags) why
      → IsFrameRowsRefusal i g (input_records_of records g) o p before now (refresh_status why)
  over_book p before now why same_grid synced over =
      by why (subst (λ d. IsOverIn (book_cells d (input_records_of records g)) (input_records_of records g) why) opened.def
      (subst (λ l. IsOverIn (book_cells b.def (lists_at records l)) (lists_at records l) why) opened.tags over))
    where
      stood : HasStood g (input_records_of records g) o p
      stood = record { opening = b.opening; opened = opened.opening; shape = saved_windows same_grid; synced = synced }

      by : (no : RefreshNo) → IsOverIn (cells_of g (input_records_of records g)) (input_records_of records g) no
          → IsFrameRowsRefusal i g (input_records_of records g) o p before now (refresh_status no)
      by (Ahead input version found) is = absurd is
      by (CellLimit n) is = OfCells n refl stood is
      by (CopyLimit n) is = OfCopies n refl stood is
      by WantOfMemory is = OfMemory refl
