-- The promise of a session, from its cells and books.
use Rattle.std.proofs.Common.{◌≡◌, ◌∙◌, ◌<◌, ◌≤◌, ◌+◌, ℕ, Bool, List, [], ◌∷◌, ◌++◌, All, Option, Result, Ok, Err, IfErr, IfOk, String, arith, ap, ap₂, sym, subst, refl, length, map, take, get_or, Some}
use Rattle.std.specs.Prelude.{◌≢◌, ◌*◌, ◌^◌, nat_eq, if◌then◌else◌}
use Rattle.std.specs.List.{AllZip, fold, sum_by}
use Rattle.std.specs.declared.alloc.Global.{Global}
use Rattle.std.proofs.lemmas.List.{ext_get_or, get_or-map, length-map, length_push, take_all}
use Rattle.std.proofs.lemmas.List.Sums.{sum_by-cons}
use Rattle.trend_num.specs.{most_stored, Point, Rec, Summary, TagDef}
use Rattle.trend_model.specs.{Raw}
use Rattle.trend_model.specs.State.{State, followed}
use Rattle.trend_model.proofs.BoundLaw.{bounded}
use Rattle.disk_model.specs.{Shows, Trace, moment, Device, LeftSince}
use Rattle.tag_cell.specs.{Entry, TagHistory, TagOpening, FitAll, IsTapeReplayed, Shown, replayed, IsSafe, CellWalk, after_entry, opened, cell_start, taken, cell_walked, ToldCell as Cell, durable_records, takes_waiting, device_name}
use Rattle.tag_cell.specs.declared.entry.Entry.TheVariants.{Take, Ask, Pull, Commit}
use Rattle.tag_cell.proofs.Entries.{points-end}
use Rattle.tag_cell.proofs.Laws.{legal}
use Rattle.calc_check.specs.Group.{Group}
use Rattle.sheet_law.specs.{complete_windows}
use Rattle.calc_refresh.specs.{GroupDefParts, lists_of, total_length, grid_of}
use Rattle.calc_refresh.proofs.Applying.{limits_hold}
use Rattle.group_book.specs.{GroupHistory, GroupOpening, StandsForGroup, cut, ToldBook as Book, versions_of, lists_at}
use Rattle.value_rows.specs.{Query, RawRow}
use Rattle.plant_status.specs.declared.status.Status.{Status}
use Rattle.session_audit.specs.{Item, IsFirstPart, tape_shows, ask_of, take_of, AreTapesBegun, AreTapesWhole, file_due, durable_in, IsCommittedCell, EndsInSave, IsRefreshedTo, durable_lists, durable_numbers, pulled as pulls_of, reached}
use Rattle.session_audit.specs.{refreshes, row_ask_of, turns_for}
use Rattle.session_audit.specs.declared.kind.Shown.{Shown as ShownBy}
use Rattle.session_audit.specs.Agendas.{ask_item, phase_item, row_item, take_item}
use Rattle.session_audit.specs.Pulls.{ArePulled}
use Rattle.session_audit.proofs.DurableLaws.{all_durable, counted, pulls_durable}
use Rattle.collector_pool.specs.{Refresh}
use Rattle.tag_base.specs.{Base, GroupDef, Refresher}
use Rattle.archive_file.specs.{TextOpensAt}
use Rattle.crash_recovery.specs.{OpensAt}
use Rattle.group_layout.specs.{IsUnsaved}
use Rattle.plant_store.specs.Tags.{IsOpened, tag_trace_of}
use Rattle.plant_store.specs.CellClosings.{AreHistoriesAt, AreHistoriesOf, IsHistoryAt, IsHistoryOfCell}
use Rattle.branded_disk.specs.{told_of}
use Rattle.plant_store.specs.{device_names_of, AreCellsOpened, IsCellOpened, records_opened, cell_records_in}
use Rattle.plant_store.specs.Groups.{AreBooksOpened, DeviceTraces, IsBookOpened, group_parts_of, group_definition_text, group_trace_at, input_records_of}
use Rattle.plant_files.specs.PlanRows.{IsGoodBase}
use Rattle.session_report.specs.{Session, report}
use Rattle.run_command.specs.{Given, AsItCame, AsUncopied, IsChecked, CountsFaults, IsDoneSo, IsFaultCounted, IsMixed, IsUpToDate, AreAsksBegun, AreGroupsSound, AreTakesBegun, AreUnitsOpened, IsBegun, HasMade, core_of, IsGroupOpened}
use Rattle.run_command.specs.{IsAcknowledged, IsGroupRefreshed, IsOnTapes, IsRecorded, IsTagOpened, IsTagSound, tag_tape, grid, opening_records_of, tag_records_of, group_tape, turns_in, AreCellAsksBegun, AreBegun, AreStepsMade}
use Rattle.run_command.specs.{AreCellTakesBegun, AreTapesMade}
use Rattle.run_command.specs.Refusals.{IsOfOpening}
use Rattle.run_command.specs.Runs.{IsContinued, IsContinuedGroup, IsDone, IsRefusedSo, IsSessionHeld, IsUndone, IsOver, IsWorkIn}
use Rattle.run_command.specs.Sessions.{planned_turn, turn_of}
use Rattle.run_command.proofs.Zipped.{zip_at, zip_length}
use Rattle.run_command.proofs.DeviceFaults.{faults_counted, none_counted}
use Rattle.plant_status.proofs.Elements.{element}

-- ---- tags

-- the history of a cell is sound
sound_tag : (def : TagDef) (before now : Trace) (t : TagHistory) → IsHistoryAt (device_name def.name) (Some before) now t
    → IsTagSound def t before now
sound_tag def before now t at =
    let is = at.is in
    let own : t.def.name ≡ def.name → at.dev.trace ≡ now = λ same. sym (at.back (ap device_name (sym same))) in
    let s : State = record { records = t.recs.items; summary = t.summary } in
    record {
      replayed = is.replayed;
      kept = λ org h step stands. record {
        legal = legal org h t.def t.opening t.tape.items s t.acked step stands is.replayed;
        bounded = bounded org (followed h (map Raw (taken t.tape.items)));
      };
      safe = λ same. subst (λ o. IsSafe t.def t.opening t.tape.items (LeftSince o)) (own same) is.safe;
      clocked = λ same. subst (HasMade (cell_walked (cell_start t.opening) t.tape.items).moment) (own same) is.past;
      opened_before = λ same. subst (HasMade t.opening.moment) (own same) is.opened_before;
      begun = λ same. at.begun (ap device_name (sym same));
      pulled = pulls_durable t.def t.opening t.tape.items s t.acked is.replayed;
    }

pub sound_tags : (old new : DeviceTraces) (defs : List TagDef) (ts : List TagHistory)
    → AreHistoriesAt (told_of old) new (device_names_of defs) ts
    → AllZip (λ (def : TagDef) t. IsTagSound def t (tag_trace_of old def) (tag_trace_of new def)) defs ts
sound_tags old new [] [] is = tt
sound_tags old new [] (t ∷ ts) is = absurd is
sound_tags old new (d ∷ ds) [] is = absurd is
sound_tags old new (d ∷ ds) (t ∷ ts) is = (sound_tag d (tag_trace_of old d) (tag_trace_of new d) t is.0, sound_tags old new ds ts is.1)

-- what has the definition and the opening of a cell was opened as the cell was
pub tag_opened : {D : Type 0} (device : D → Device) → (def : TagDef) (before : Trace)
    (c : Cell D) (its : TagDef) (o : TagOpening)
    → IsCellOpened def before (device c.journal.dev) c → its ≡ c.def
    → o.recs.items ≡ c.opening.recs.items → o.summary ≡ c.opening.summary → o.moment ≡ c.opening.moment → o.faults ≡ c.opening.faults
    → IsTagOpened def before its o
tag_opened device def before c its o was same records summary moment faults_same =
    let core : core_of c.def c.opening ≡ core_of its o = λ i. record {
      state = record { records = (sym records) i; summary = (sym summary) i };
      step = (sym (ap (λ (x : TagDef). x.step) same)) i;
      spare = 0;
    } in
    record {
      def_is = same ∙ was.def_is;
      found = subst (IsOpened def before) core was.found;
      opened_at = subst (OpensAt def before) (sym moment) was.opened_at;
      faultless = faults_same ∙ was.opened_faultless;
    }

module _ {D : Type 0} (device : D → Device) (old : DeviceTraces) where
  -- each was opened as its device stood
  pub opened_tags : (defs : List TagDef) (first last : List (Cell D)) (ts : List TagHistory)
      → AreCellsOpened device defs old first → AllZip IsContinued first last → AreHistoriesOf device last ts
      → AllZip (λ def (t : TagHistory). IsTagOpened def (tag_trace_of old def) t.def t.opening) defs ts
  opened_tags [] [] [] [] was same is = tt
  opened_tags [] [] [] (t ∷ ts) was same is = absurd is
  opened_tags [] [] (c ∷ cs) ts was same is = absurd same
  opened_tags [] (c ∷ cs) last ts was same is = absurd was
  opened_tags (d ∷ ds) [] last ts was same is = absurd was
  opened_tags (d ∷ ds) (c ∷ cs) [] ts was same is = absurd same
  opened_tags (d ∷ ds) (c ∷ cs) (e ∷ es) [] was same is = absurd is
  opened_tags (d ∷ ds) (c ∷ cs) (e ∷ es) (t ∷ ts) was same is = (
    tag_opened device d (tag_trace_of old d) c t.def t.opening was.0 (is.0.def_is ∙ same.0.def)
        (ap (λ (o : TagOpening). o.recs.items) is.0.opening_is ∙ same.0.records)
        (ap (λ (o : TagOpening). o.summary) is.0.opening_is ∙ same.0.summary)
        (ap (λ (o : TagOpening). o.moment) is.0.opening_is ∙ same.0.moment)
        (ap (λ (o : TagOpening). o.faults) is.0.opening_is ∙ same.0.faults),
    opened_tags ds cs es ts was.1 same.1 is.1,
  )

  -- the records with which they were opened
  pub opened_lists : (defs : List TagDef) (first last : List (Cell D)) (ts : List TagHistory)
      → AreCellsOpened device defs old first → AllZip IsContinued first last → AreHistoriesOf device last ts
      → cell_records_in first ≡ map (λ (t : TagHistory). t.opening.recs.items) ts
  opened_lists [] [] [] [] was same is = refl
  opened_lists [] [] [] (t ∷ ts) was same is = absurd is
  opened_lists [] [] (c ∷ cs) ts was same is = absurd same
  opened_lists [] (c ∷ cs) last ts was same is = absurd was
  opened_lists (d ∷ ds) [] last ts was same is = absurd was
  opened_lists (d ∷ ds) (c ∷ cs) [] ts was same is = absurd same
  opened_lists (d ∷ ds) (c ∷ cs) (e ∷ es) [] was same is = absurd is
  opened_lists (d ∷ ds) (c ∷ cs) (e ∷ es) (t ∷ ts) was same is =
      ap₂ (λ (x : List Rec) xs. x ∷ xs)
      (ap (λ (x : State). x.records) was.0.state_is ∙ sym (ap (λ (o : TagOpening). o.recs.items) is.0.opening_is ∙ same.0.records))
      (opened_lists ds cs es ts was.1 same.1 is.1)

  -- all tags together have as many records at their openings as were opened
  pub opened_records : (first last : List (Cell D)) (ts : List TagHistory) → AllZip IsContinued first last
      → AreHistoriesOf device last ts
      → ◌≡◌ {A = ℕ} (sum_by (λ (t : TagHistory). length t.opening.recs.items) ts) (records_opened first)
  opened_records [] [] [] same is = refl
  opened_records [] [] (t ∷ ts) same is = absurd is
  opened_records [] (c ∷ cs) ts same is = absurd same
  opened_records (c ∷ cs) [] ts same is = absurd same
  opened_records (c ∷ cs) (e ∷ es) [] same is = absurd is
  opened_records (c ∷ cs) (e ∷ es) (t ∷ ts) same is =
      let here : length t.opening.recs.items ≡ length c.opening.recs.items =
      ap length (ap (λ (o : TagOpening). o.recs.items) is.0.opening_is ∙ same.0.records) in
      let rest = opened_records cs es ts same.1 is.1 in
      let new = sum_by-cons (λ (x : TagHistory). length x.opening.recs.items) t ts in
      let old_sum = sum_by-cons (λ (x : Cell D). length x.opening.recs.items) c cs in
      omega (arith, here, rest, new, old_sum)

-- ---- all is acknowledged

-- no more is acknowledged than was taken
acked_within : (show : List Point → Shown) (step : Bool) (o : TagOpening) (w : CellWalk) (es : List Entry)
    → w.acked ≤ o.summary.taken + length w.points → FitAll show step o w es
    → (cell_walked w es).acked ≤ o.summary.taken + length (cell_walked w es).points
acked_within show step o w [] within fits = within
acked_within show step o w (Take collector row p h n ∷ es) within fits =
    acked_within show step o (after_entry w (Take collector row p h n)) es (omega (arith, within, length_push w.points p)) fits.1
acked_within show step o w (Ask reader row q a ∷ es) within fits = acked_within show step o w es within fits.1
acked_within show step o w (Pull group first upto ∷ es) within fits = acked_within show step o w es within fits.1
acked_within show step o w (Commit moment acked ∷ es) within fits =
    acked_within show step o (after_entry w (Commit moment acked)) es fits.0.within fits.1

all_acked : (def : TagDef) (o : TagOpening) (tape : List Entry) (s : State) (acked : ℕ) → IsTapeReplayed def o tape s acked
    → s.summary.taken ≤ acked → acked ≡ s.summary.taken
all_acked def o tape s acked is full = omega (
  arith,
  is.acked_are,
  full,
  ap (λ (x : State). x.summary.taken) is.stands,
  counted def.step (opened o) def.tuning (taken tape) is.tuning,
  ap length (points-end o tape),
  acked_within (replayed def.step o) def.step o (cell_start o) tape (omega arith) is.entries,
)

-- ---- tapes

module _ {C T E A : Type 0} (tape_of : C → List E) (told_of : T → List E) (work : E → Option ShownBy) (item_of : ℕ → ℕ → A → Option Item)
    (files : List (List A)) where
  -- what the tapes of cells or books show, those of their histories show
  whole_tapes : (cs : List C) (ts : List T) → length ts ≡ length cs
      → ((i : ℕ) (c : C) (t : T) → i < length ts → told_of (get_or ts i t) ≡ tape_of (get_or cs i c))
      → AreTapesWhole tape_of work item_of files cs → AreTapesWhole told_of work item_of files ts
  whole_tapes cs ts many same whole = record {
    each = λ unit worker t below.
        let there : unit < length cs = omega (arith, many, below) in
        let c = element cs unit there in
        subst (λ l. tape_shows work worker l ≡ file_due item_of files worker unit) (sym (same unit c t below)) (whole.each unit worker c there);
  }

  -- so of their first rows
  begun_tapes : (cs : List C) (ts : List T) → length ts ≡ length cs
      → ((i : ℕ) (c : C) (t : T) → i < length ts → told_of (get_or ts i t) ≡ tape_of (get_or cs i c))
      → AreTapesBegun tape_of work item_of files cs → AreTapesBegun told_of work item_of files ts
  begun_tapes cs ts many same begun = record {
    each = λ unit worker t below.
        let there : unit < length cs = omega (arith, many, below) in
        let c = element cs unit there in
        subst (λ l. IsFirstPart (tape_shows work worker l) (file_due item_of files worker unit)) (sym (same unit c t below))
        (begun.each unit worker c there);
  }

-- the records of a cell whose history has all acknowledged are such as no crash takes away
durable_all : {D : Type 0} (d : Device) (c : Cell D) (t : TagHistory) → IsHistoryOfCell d c t
    → takes_waiting c ≡ 0 → durable_records c ≡ t.recs.items
durable_all d c t is none =
    let s : State = record { records = t.recs.items; summary = t.summary } in
    (λ i. durable_in ((sym is.def_is) i) ((sym is.opening_is) i) ((sym is.tape_is) i))
    ∙ all_durable t.def t.opening t.tape.items s t.acked is.history.replayed
    (omega (arith, none, is.acked_is, ap (λ (x : Summary). x.taken) is.summary_is))

-- what is made of what was made of elements
map_twice : {X Y Z : Type 0} (g : Y → Z) (f : X → Y) (xs : List X) → map g (map f xs) ≡ map (λ x. g (f x)) xs
map_twice g f [] = refl
map_twice g f (x ∷ xs) = ap (λ l. g (f x) ∷ l) (map_twice g f xs)

-- ---- turns of refreshers

-- what is added up of what is made of elements
fold_map : {X Y : Type 0} (f : X → Y) (count : Y → ℕ) (n : ℕ) (xs : List X)
    → fold (λ a x. a + count (f x)) n xs ≡ fold (λ a y. a + count y) n (map f xs)
fold_map f count n [] = refl
fold_map f count n (x ∷ xs) = fold_map f count (n + count (f x)) xs

turns_same : (group : ℕ) (xs : List Refresh) (ys : List Refresher) → map turn_of xs ≡ map planned_turn ys
    → turns_for group xs ≡ turns_in group ys
turns_same group xs ys same =
    let count : ℕ × ℕ → ℕ = λ p. if nat_eq p.0 group then p.1 else 0 in
    fold_map turn_of count 0 xs ∙ ap (fold (λ a y. a + count y) 0) same ∙ sym (fold_map planned_turn count 0 ys)

-- ---- groups

-- the definition text of a group is not empty
some_text : (front : List ℕ) (byte : ℕ) (back : List ℕ) → front ++ byte ∷ back ≢ []
some_text [] byte back none = absurd (cc none)
some_text (x ∷ front) byte back none = absurd (cc none)

-- what has the definition and the opening of a book was opened as the book was
pub group_opened : {D : Type 0} (device : D → Device) → (i : ℕ) (d : GroupDef)
    (before : Trace) (recovered records : List (List Rec)) (b : Book D) (group : ℕ) (def : GroupDefParts) (text : List ℕ)
    (o : GroupOpening) → recovered ≡ records → IsBookOpened device i d recovered before b → group ≡ b.group → def ≡ b.def
    → text ≡ b.text → o.versions.items ≡ b.opening.versions.items → lists_of o.rows.items ≡ lists_of b.opening.rows.items
    → o.moment ≡ b.opening.moment → o.faults ≡ b.opening.faults → IsGroupOpened i d before records group def text o
group_opened device i d before recovered records b group def text o same was group_is def_is text_is versions rows moment
    faults_same = record {
      number = group_is ∙ was.group;
      def_is = def_is ∙ was.def;
      text_is = text_is ∙ was.text;
      opening = record {
        stood = subst (λ v. Shows before (StandsForGroup (group_definition_text d) (group_parts_of d) v (lists_of o.rows.items))) (sym versions)
            (subst (λ r. Shows before (StandsForGroup (group_definition_text d) (group_parts_of d) b.opening.versions.items r)) (sym rows)
            was.opening.stood);
        within = subst (λ v. map length (cut v records) ≡ v) (sym versions)
            (subst (λ l. map length (cut b.opening.versions.items l) ≡ b.opening.versions.items) same was.opening.within);
        faults = faults_same ∙ was.opening.faults;
        moment = subst (TextOpensAt (IsUnsaved (group_definition_text d)) before) (sym moment) was.opening.moment;
      };
    }

module _ {D : Type 0} (device : D → Device) (base : Base) (old new : DeviceTraces) where
  pub sound_groups : (cells : List (Cell D)) (books : List (Book D)) (s : Session) → IsOver device base old new cells books s
      → AreGroupsSound base old new s
  sound_groups cells books s is =
      let many : length s.groups.items ≡ length books = is.groups.as_many in
      record {
        as_many = many ∙ is.as_many_groups;
        each = λ i d g below.
            let there : i < length books = omega (arith, many, below) in
            let its = (is.groups.each i (element books i there) g there).history in
            record {
              defined = (its.group, its.grid);
              kept = its.legal;
              evaluated = its.evaluated;
              safe = λ some. (is.group_devices.each i d g below some).is.safe;
              clocked = λ some. (is.group_devices.each i d g below some).is.past;
              opened_before = λ some. (is.group_devices.each i d g below some).is.opened_before;
              begun = λ some. (is.group_devices.each i d g below some).begun;
            };
      }

  -- each was opened as what its device stood for
  opened_groups : (first last_cells : List (Cell D)) (opened last : List (Book D)) (s : Session)
      → AreBooksOpened device base.groups.items (cell_records_in first) old opened → AllZip IsContinuedGroup opened last
      → IsOver device base old new last_cells last s → cell_records_in first ≡ opening_records_of s
      → (i : ℕ) (d : GroupDef) (g : GroupHistory) → i < length s.groups.items
      → IsGroupOpened i (get_or base.groups.items i d) (group_trace_at old (get_or base.groups.items i d))
      (input_records_of (opening_records_of s) (get_or base.groups.items i d)) (get_or s.groups.items i g).group
      (get_or s.groups.items i g).def (get_or s.groups.items i g).text.items (get_or s.groups.items i g).opening
  opened_groups first last_cells opened last s was same is lists i d g below =
      let def = get_or base.groups.items i d in
      let there : i < length last = omega (arith, is.groups.as_many, below) in
      let there_first : i < length opened = omega (arith, there, zip_length IsContinuedGroup opened last same) in
      let b = element last i there in
      let a = element opened i there_first in
      let history = is.groups.each i b g there in
      let continued = zip_at IsContinuedGroup opened last i a b same there in
      let book = was.each i d a there_first in
      let versions : (get_or s.groups.items i g).opening.versions.items ≡ (get_or opened i a).opening.versions.items =
      ap (λ (o : GroupOpening). o.versions.items) history.opening ∙ continued.versions in
      let rows : lists_of (get_or s.groups.items i g).opening.rows.items ≡ lists_of (get_or opened i a).opening.rows.items =
      ap (λ (o : GroupOpening). lists_of o.rows.items) history.opening ∙ continued.rows in
      group_opened device i def (group_trace_at old def) (input_records_of (cell_records_in first) def)
      (input_records_of (opening_records_of s) def) (get_or opened i a) (get_or s.groups.items i g).group (get_or s.groups.items i g).def
      (get_or s.groups.items i g).text.items (get_or s.groups.items i g).opening (ap (λ l. input_records_of l def) lists) book
      (history.group ∙ continued.group) (history.def ∙ continued.def) (history.text ∙ continued.text) versions rows
      (ap (λ (o : GroupOpening). o.moment) history.opening ∙ continued.moment)
      (ap (λ (o : GroupOpening). o.faults) history.opening ∙ continued.faults)

  -- ---- a session that is done

  module _ (g : Given) (cells : List (Cell D)) (books : List (Book D)) (s : Session) (is : IsOver device base old new cells books s) where
    pub tags_many : length s.tags.items ≡ length cells
    tags_many = zip_length _ cells s.tags.items is.tags

    -- the history of the cell at a place
    pub history_at : (i : ℕ) (c : Cell D) (t : TagHistory) → i < length s.tags.items
        → IsHistoryOfCell (device (get_or cells i c).journal.dev)
        (get_or cells i c) (get_or s.tags.items i t)
    history_at i c t below = zip_at (λ (x : Cell D) h. IsHistoryOfCell (device x.journal.dev) x h)
        cells s.tags.items i c t is.tags below

    -- what the workers left are first rows of their files: takes, questions about tags, and all of them
    pub begun_takes : (earlier phases : ℕ) (rows : List (List RawRow)) (queries : List (List Query)) (refreshers : List Refresher)
        → IsWorkIn base earlier phases rows queries refreshers g → AreCellTakesBegun g cells → AreTakesBegun (phase_item earlier) rows s
    begun_takes earlier phases rows queries refreshers given was =
        subst (λ n. AreTapesBegun tag_tape take_of (phase_item n) rows s.tags.items) given.its.earlier_is
        (subst (λ files. AreTapesBegun tag_tape take_of (phase_item g.work.earlier) files s.tags.items) given.its.collectors
        (begun_tapes (λ (c : Cell D). c.tape) tag_tape take_of (phase_item g.work.earlier) (lists_of g.work.collectors.items) cells
        s.tags.items tags_many (λ i c t below. (history_at i c t below).tape_is) was))

    pub begun_asks : (earlier phases : ℕ) (rows : List (List RawRow)) (queries : List (List Query)) (refreshers : List Refresher)
        → IsWorkIn base earlier phases rows queries refreshers g → AreCellAsksBegun g cells → AreAsksBegun queries s
    begun_asks earlier phases rows queries refreshers given was =
        subst (λ files. AreTapesBegun tag_tape ask_of ask_item files s.tags.items) given.its.readers
        (begun_tapes (λ (c : Cell D). c.tape) tag_tape ask_of ask_item (lists_of g.work.readers.items) cells s.tags.items tags_many
        (λ i c t below. (history_at i c t below).tape_is) was)

    pub begun : (earlier phases : ℕ) (rows : List (List RawRow)) (queries : List (List Query)) (refreshers : List Refresher)
        → IsWorkIn base earlier phases rows queries refreshers g → AreBegun g cells books → IsBegun (phase_item earlier) rows queries s
    begun earlier phases rows queries refreshers given was = record {
      takes = begun_takes earlier phases rows queries refreshers given was.takes;
      asks = begun_asks earlier phases rows queries refreshers given was.asks;
      row_asks = subst (λ files. AreTapesBegun group_tape row_ask_of row_item files s.groups.items) given.its.readers
          (begun_tapes (λ (b : Book D). b.tape) group_tape row_ask_of row_item (lists_of g.work.readers.items) books s.groups.items
          is.groups.as_many (λ i b h below. (is.groups.each i b h (omega (arith, is.groups.as_many, below))).tape) was.row_asks);
    }

    -- all that is due stands on the tapes
    pub on_tapes : (earlier phases : ℕ) (rows : List (List RawRow)) (queries : List (List Query)) (refreshers : List Refresher)
        → IsWorkIn base earlier phases rows queries refreshers g → AreTapesMade g cells books → IsOnTapes (phase_item earlier) rows queries s
    on_tapes earlier phases rows queries refreshers given tapes = record {
      takes = subst (λ n. AreTapesWhole tag_tape take_of (phase_item n) rows s.tags.items) given.its.earlier_is
          (subst (λ files. AreTapesWhole tag_tape take_of (phase_item g.work.earlier) files s.tags.items) given.its.collectors
          (whole_tapes (λ (c : Cell D). c.tape) tag_tape take_of (phase_item g.work.earlier) (lists_of g.work.collectors.items) cells
          s.tags.items tags_many (λ i c t below. (history_at i c t below).tape_is) tapes.takes));
      asks = subst (λ files. AreTapesWhole tag_tape ask_of ask_item files s.tags.items) given.its.readers
          (whole_tapes (λ (c : Cell D). c.tape) tag_tape ask_of ask_item (lists_of g.work.readers.items) cells s.tags.items tags_many
          (λ i c t below. (history_at i c t below).tape_is) tapes.asks);
      row_asks = subst (λ files. AreTapesWhole group_tape row_ask_of row_item files s.groups.items) given.its.readers
          (whole_tapes (λ (b : Book D). b.tape) group_tape row_ask_of row_item (lists_of g.work.readers.items) books s.groups.items
          is.groups.as_many (λ i b h below. (is.groups.each i b h (omega (arith, is.groups.as_many, below))).tape) tapes.row_asks);
    }

    -- the values of a cell on which none waits are acknowledged
    pub acknowledged : (i : ℕ) (t : TagHistory) → i < length s.tags.items → ((c : Cell D) → takes_waiting (get_or cells i c) ≡ 0)
        → IsAcknowledged (get_or s.tags.items i t)
    acknowledged i t below none =
        let c = element cells i (omega (arith, tags_many, below)) in
        let of = history_at i c t below in
        let h = get_or s.tags.items i t in
        all_acked h.def h.opening h.tape.items (record { records = h.recs.items; summary = h.summary }) h.acked of.history.replayed
        (omega (arith, none c, of.acked_is, ap (λ (x : Summary). x.taken) of.summary_is))

    -- and where none waits on any, all is recorded
    pub recorded : (earlier phases : ℕ) (rows : List (List RawRow)) (queries : List (List Query)) (refreshers : List Refresher)
        → IsWorkIn base earlier phases rows queries refreshers g → AreTapesMade g cells books → All IsCommittedCell cells
        → IsRecorded (phase_item earlier) rows queries s
    recorded earlier phases rows queries refreshers given tapes committed = record {
      on_tapes = on_tapes earlier phases rows queries refreshers given tapes;
      acknowledged = λ i t below. acknowledged i t below (λ c. (committed i c (omega (arith, tags_many, below))).none_waits);
    }

    pub mixed : (earlier phases : ℕ) (rows : List (List RawRow)) (queries : List (List Query)) (refreshers : List Refresher)
        → IsGoodBase base → IsWorkIn base earlier phases rows queries refreshers g → AreStepsMade g cells books
        → ArePulled (lists_of g.inputs.items) cells books → IsMixed (phase_item earlier) base rows queries s
    mixed earlier phases rows queries refreshers good given made pulled = record {
      recorded = recorded earlier phases rows queries refreshers given made.tapes made.committed;
      pulls = λ group input d h t below within.
          let there : group < length books = omega (arith, is.groups.as_many, below) in
          let of_base : group < length base.groups.items = omega (arith, there, is.as_many_groups) in
          let def = get_or base.groups.items group d in
          let tags : get_or (lists_of g.inputs.items) group [] ≡ def.inputs.items =
          ap (λ l. get_or l group []) given.inputs ∙ get_or-map (λ (x : GroupDef). x.inputs.items) base.groups.items group d [] of_base in
          let tag = get_or def.inputs.items input 0 in
          let known : tag < length s.tags.items = omega (
            arith,
            tags_many,
            is.as_many_tags,
            (good.sound group d of_base).inputs_are_tags input 0 within,
          ) in
          let cell = element cells tag (omega (arith, tags_many, known)) in
          let book = element books group there in
          let ends = ((pulled.each group book there).each input cell (subst (λ l. input < length l) (sym tags) within)).ends in
          ap (pulls_of group) ((history_at tag cell t known).tape_is)
          ∙ subst (λ l. pulls_of group (get_or cells (get_or l input 0) cell).tape ≡ reached input (get_or books group book).tape) tags ends
          ∙ ap (reached input) (sym (is.groups.each group book h there).tape);
    }

    -- the records of a tag are those of its cell, and no crash takes one away
    records_at : (tag : ℕ) (c : Cell D) → tag < length s.tags.items → All (λ x. takes_waiting x ≡ 0) cells
        → (tag_records_of s tag ≡ (get_or cells tag c).state.records) × (get_or (durable_lists cells) tag [] ≡ (get_or cells tag c).state.records)
    records_at tag c below none =
        let t = element s.tags.items tag below in
        let there : tag < length cells = omega (arith, tags_many, below) in
        let of = history_at tag c t below in (
          get_or-map (λ (x : TagHistory). x.recs.items) s.tags.items tag t [] below ∙ of.records_are,
          get_or-map durable_records cells tag c [] there
              ∙ durable_all _ (get_or cells tag c) (get_or s.tags.items tag t) of (none tag c there) ∙ of.records_are,
        )

    -- what a group has of an input are the records of its tag
    copy_at : (i input : ℕ) (b : Book D) (tags : List ℕ) → i < length books → input < length tags
        → get_or (lists_of g.inputs.items) i [] ≡ tags → All (λ tag. tag < length s.tags.items) tags → All (λ x. takes_waiting x ≡ 0) cells
        → ArePulled (lists_of g.inputs.items) cells books → versions_of (get_or books i b) ≡ durable_numbers (durable_lists cells) tags
        → get_or (get_or books i b).sheet.copies input [] ≡ tag_records_of s (get_or tags input 0)
    copy_at i input b tags there within same known none pulled versions =
        let tag = get_or tags input 0 in
        let book = get_or books i b in
        let below : tag < length s.tags.items = known input 0 within in
        let cell = element cells tag (omega (arith, tags_many, below)) in
        let at = records_at tag cell below none in
        let copies : length book.sheet.copies ≡ length tags = sym (length-map book.sheet.copies length) ∙ ap length versions
        ∙ length-map tags (λ tag. length (get_or (durable_lists cells) tag [])) in
        let long : length (get_or book.sheet.copies input []) ≡ length (get_or cells tag cell).state.records =
        sym (get_or-map length book.sheet.copies input [] 0 (omega (arith, copies, within))) ∙ ap (λ l. get_or l input 0) versions
        ∙ get_or-map (λ tag. length (get_or (durable_lists cells) tag [])) tags input 0 0 within ∙ ap length at.1 in
        let copy = ((pulled.each i b there).each input cell (subst (λ l. input < length l) (sym same) within)).copy in
        subst (λ l. get_or book.sheet.copies input []
        ≡ take (length (get_or book.sheet.copies input [])) (get_or cells (get_or l input 0) cell).state.records) same copy
        ∙ take_all (length (get_or book.sheet.copies input [])) (get_or cells tag cell).state.records (omega (arith, long))
        ∙ sym at.0

    -- the tags of a group's inputs are those of the base, and known
    pub tags_of : (i : ℕ) (d : GroupDef) → IsGoodBase base → lists_of g.inputs.items ≡ map (λ (x : GroupDef). x.inputs.items) base.groups.items
        → i < length base.groups.items → (get_or (lists_of g.inputs.items) i [] ≡ (get_or base.groups.items i d).inputs.items)
        × All (λ tag. tag < length s.tags.items) (get_or base.groups.items i d).inputs.items
    tags_of i d good inputs below = (
      ap (λ l. get_or l i []) inputs ∙ get_or-map (λ (x : GroupDef). x.inputs.items) base.groups.items i d [] below,
      λ input e within. omega (arith, tags_many, is.as_many_tags, (good.sound i d below).inputs_are_tags input e within),
    )

    -- what no crash takes away of tags are their records
    pub records_of_tags : (tags : List ℕ) → All (λ tag. tag < length s.tags.items) tags → All (λ x. takes_waiting x ≡ 0) cells
        → lists_at (durable_lists cells) tags ≡ map (tag_records_of s) tags
    records_of_tags tags known none =
        let lists = length-map tags (λ tag. get_or (durable_lists cells) tag []) in
        ext_get_or [] (lists_at (durable_lists cells) tags) (map (tag_records_of s) tags)
        (lists ∙ sym (length-map tags (tag_records_of s)))
        (λ input within.
        let inside : input < length tags = omega (arith, lists, within) in
        let tag = get_or tags input 0 in
        let below : tag < length s.tags.items = known input 0 inside in
        let at = records_at tag (element cells tag (omega (arith, tags_many, below))) below none in
        get_or-map (λ tag. get_or (durable_lists cells) tag []) tags input 0 [] inside
        ∙ (at.1 ∙ sym at.0)
        ∙ sym (get_or-map (tag_records_of s) tags input 0 [] inside))

    -- as many records of each input no crash takes away as the tag has
    as_many_durable : (tags : List ℕ) → All (λ tag. tag < length s.tags.items) tags → All (λ x. takes_waiting x ≡ 0) cells
        → durable_numbers (durable_lists cells) tags ≡ map (λ tag. length (tag_records_of s tag)) tags
    as_many_durable tags known none =
        sym (map_twice length (λ tag. get_or (durable_lists cells) tag []) tags)
        ∙ (ap (map length) (records_of_tags tags known none) ∙ map_twice length (tag_records_of s) tags)

    -- the turns that a group is given are those of its refreshers, and those of the phases before
    pub turns_of_group : (earlier phases : ℕ) (rows : List (List RawRow)) (queries : List (List Query)) (refreshers : List Refresher)
        → IsWorkIn base earlier phases rows queries refreshers g → (i : ℕ) → i < length base.groups.items
        → get_or g.turns.items i 0 ≡ phases + turns_in i refreshers
    turns_of_group earlier phases rows queries refreshers given i below =
        given.sized.turns i below
        ∙ ap (λ (p : ℕ). p + turns_for i g.work.refreshers.items) given.phases_are
        ∙ ap (λ (n : ℕ). phases + n) (turns_same i g.work.refreshers.items refreshers given.its.turns)

    -- a group that was brought up to its tags, and saved
    pub refreshed : (earlier phases : ℕ) (rows : List (List RawRow)) (queries : List (List Query)) (refreshers : List Refresher)
        → IsGoodBase base → IsWorkIn base earlier phases rows queries refreshers g → All IsCommittedCell cells
        → AreUnitsOpened base old s → (i : ℕ) (d : GroupDef) (h : GroupHistory) (b : Book D) → i < length s.groups.items
        → IsRefreshedTo (durable_lists cells) (get_or (lists_of g.inputs.items) i []) (get_or g.turns.items i 0) (get_or books i b)
        → IsGroupRefreshed (get_or base.groups.items i d) (phases + turns_in i refreshers) s (get_or s.groups.items i h)
    refreshed earlier phases rows queries refreshers good given committed was i d h b below to =
        let there : i < length books = omega (arith, is.groups.as_many, below) in
        let of_base : i < length base.groups.items = omega (arith, there, is.as_many_groups) in
        let def = get_or base.groups.items i d in
        let book = get_or books i b in
        let of = is.groups.each i b h there in
        let tags = tags_of i d good given.inputs of_base in
        let g' = get_or s.groups.items i h in
        let same_cells : complete_windows (grid g') (lists_of g'.copies.items) * length g'.def.calcs.calcs
        ≡ complete_windows book.sheet.grid book.sheet.copies * length book.sheet.group.calcs
        = ap₂ (λ w (l : List (List Rec)). complete_windows w l * length g'.def.calcs.calcs)
        (ap (λ (x : GroupDefParts). grid_of x.start x.period) of.def ∙ sym of.same_grid) of.copies
        ∙ ap (λ (x : Group). complete_windows book.sheet.grid book.sheet.copies * length x.calcs)
        (ap (λ (x : GroupDefParts). x.calcs) of.def ∙ sym of.same_group) in
        let fits = limits_hold (complete_windows book.sheet.grid book.sheet.copies * length book.sheet.group.calcs)
        (total_length book.sheet.copies) to.within in
        record {
          refreshed = ap (λ l. length (refreshes l)) of.tape ∙ to.refreshed
              ∙ ap (λ n. n + 1) (turns_of_group earlier phases rows queries refreshers given i of_base);
          versions = of.versions ∙ to.versions ∙ ap (durable_numbers (durable_lists cells)) tags.0
              ∙ as_many_durable def.inputs.items tags.1 (λ k x at. (committed k x at).none_waits);
          few_cells = omega (arith, same_cells, fits.0);
          few_copies = omega (arith, ap total_length of.copies, fits.1);
          saved = subst EndsInSave (sym of.tape) (to.saved (of.there (λ none.
              some_text def.name 44 _ (sym (was.groups i d h below).text_is ∙ of.text ∙ none))));
        }

    pub up_to_date : (earlier phases : ℕ) (rows : List (List RawRow)) (queries : List (List Query)) (refreshers : List Refresher)
        → IsGoodBase base → IsWorkIn base earlier phases rows queries refreshers g → AreStepsMade g cells books
        → ArePulled (lists_of g.inputs.items) cells books
        → AreUnitsOpened base old s → (i : ℕ) (d : GroupDef) (h : GroupHistory) → i < length s.groups.items
        → IsUpToDate (get_or base.groups.items i d) (phases + turns_in i refreshers) s (get_or s.groups.items i h)
    up_to_date earlier phases rows queries refreshers good given made pulled was i d h below =
        let there : i < length books = omega (arith, is.groups.as_many, below) in
        let of_base : i < length base.groups.items = omega (arith, there, is.as_many_groups) in
        let def = get_or base.groups.items i d in
        let b = element books i there in
        let book = get_or books i b in
        let of = is.groups.each i b h there in
        let tags = tags_of i d good given.inputs of_base in
        let to = made.refreshed.each i b there in
        let versions : versions_of book ≡ durable_numbers (durable_lists cells) def.inputs.items =
        to.versions ∙ ap (durable_numbers (durable_lists cells)) tags.0 in
        let copies : length book.sheet.copies ≡ length def.inputs.items = sym (length-map book.sheet.copies length) ∙ ap length versions
        ∙ length-map def.inputs.items (λ tag. length (get_or (durable_lists cells) tag [])) in
        record {
          refreshed = refreshed earlier phases rows queries refreshers good given made.committed was i d h b below to;
          copies = of.copies ∙ ext_get_or [] book.sheet.copies (map (tag_records_of s) def.inputs.items)
              (copies ∙ sym (length-map def.inputs.items (tag_records_of s)))
              (λ input within.
              let inside : input < length def.inputs.items = omega (arith, copies, within) in
              copy_at i input b def.inputs.items there inside tags.0 tags.1 (λ k x at. (made.committed k x at).none_waits) pulled versions
              ∙ sym (get_or-map (tag_records_of s) def.inputs.items input 0 [] inside));
        }

    -- the promise of a session that has done the work of its last phase
    pub done : (earlier phases : ℕ) (rows : List (List RawRow)) (queries : List (List Query)) (refreshers : List Refresher)
        (text : List ℕ) → IsGoodBase base → IsWorkIn base earlier phases rows queries refreshers g → AreUnitsOpened base old s
        → IsDone base g cells books s text
        → IsDoneSo (phase_item earlier) (λ i. phases + turns_in i refreshers) base rows queries s text
    done earlier phases rows queries refreshers text good given was it = record {
      ended = it.ended;
      mixed = mixed earlier phases rows queries refreshers good given it.made it.pulled;
      groups = up_to_date earlier phases rows queries refreshers good given it.made it.pulled was;
      same = it.same ∙ (λ k. report base ((sym (length-map g.work.collectors.items _) ∙ ap length given.its.collectors) k) (given.its.readers k) s);
    }

-- in the only phase of a session there are no turns besides those of its refreshers
pub only_phase : (base : Base) (rows : List (List RawRow)) (queries : List (List Query)) (refreshers : List Refresher) (s : Session)
    (text : List ℕ) → IsDoneSo (phase_item 0) (λ i. 0 + turns_in i refreshers) base rows queries s text
    → IsDoneSo take_item (λ i. turns_in i refreshers) base rows queries s text
only_phase base rows queries refreshers s text it = record {
  ended = it.ended;
  mixed = it.mixed;
  groups = λ i d g below. subst (λ n. IsUpToDate (get_or base.groups.items i d) n s (get_or s.groups.items i g))
      (omega arith) (it.groups i d g below);
  same = it.same;
}

-- ---- all of it

-- what is done was opened as it was kept
pub if_done : {P : Type 0} {X Y : String Global → Type 0} (answer : Result (String Global) Status) → ((IsOfOpening answer → ⊥) → P)
    → (P → (text : String Global) → X text → Y text) → IfOk answer X → IfOk answer Y
if_done (Ok text) opened follows x = follows (opened (λ none. none)) text x
if_done (Err why) opened follows x = tt

-- unless the answer reports a changed opening, each tag and group of a session was opened as what its device stood for
pub held_opened : {D : Type 0} (device : D → Device) → (base : Base) (g : Given) (old new : DeviceTraces)
    (before now : ℕ) (answer : Result (String Global) Status) (s : Session) → IsSessionHeld device base g old new before now answer s
    → (IsOfOpening answer → ⊥) → AreUnitsOpened base old s
held_opened device base g old new before now answer s is none = record {
  tags = opened_tags device old base.tags.items is.opened is.cells s.tags.items is.opening.tags (is.same_tags none)
      is.over.tags;
  groups = opened_groups device base old new is.opened is.cells is.opened_books is.books s is.opening.groups
      (is.same_groups none) is.over
      (opened_lists device old base.tags.items is.opened is.cells s.tags.items is.opening.tags (is.same_tags none) is.over.tags);
  few = subst (λ n. n ≤ most_stored) (sym (opened_records device old is.opened is.cells s.tags.items (is.same_tags none) is.over.tags))
      is.opening.few;
}

-- what a session counts of the faults of its devices
pub session_counts : {D : Type 0} (device : D → Device) (base : Base) (g : Given) (old new : DeviceTraces)
    (before now : ℕ) (answer : Result (String Global) Status) (s : Session)
    → (run : IsSessionHeld device base g old new before now answer s)
    → IfErr answer (IsRefusedSo base g run.opened run.opened_books run.cells run.books s) → before < 2 ^ 64
    → CountsFaults before now answer
session_counts device base g old new before now (Ok text) s run undone few =
    none_counted device base old new run.cells run.books s run.over run.opened run.opened_books run.opening
    (run.same_tags (λ none. none)) (run.same_groups (λ none. none)) g run.done.made before now (run.counts few)
session_counts device base g old new before now (Err why) s run undone few =
    ((run.counts few).later, by undone.checked)
  where
    by : IsChecked base s undone.came why → IsFaultCounted before now why
    by (AsItCame same copied) = faults_counted device base old new before now run.cells run.books s run.over (run.counts few) g
        run.opened run.opened_books s.workers.items (Err why)
        (subst (IsUndone g run.opened run.opened_books run.cells run.books s.workers.items) (sym same) undone.undone)
    by (AsUncopied none apart) = λ unit same. absurd (cc (same, apart.differs.why_is))
