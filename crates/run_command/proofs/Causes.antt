-- Why a session has no report: the cause that its cells and books show is one that its histories show.
use Rattle.std.proofs.Common.{◌≡◌, ◌∙◌, ◌⊎◌, inl, inr, ◌<◌, ◌≤◌, ◌+◌, ℕ, Bool, true, false, nat_lt, List, [], ◌∷◌, All, Option, None, Some, IsSomeAnd, arith, ap, ap₂, sym, subst, refl, length, map, take, get_or, ltb-false, ltb-true}
use Rattle.std.specs.Prelude.{◌*◌, slice_get, if◌then◌else◌}
use Rattle.std.specs.List.{AllZip, sum_by}
use Rattle.std.specs.Option.{unwrap_or}
use Rattle.std.proofs.lemmas.Bool.{cases_lt}
use Rattle.std.proofs.lemmas.List.{get_or-map, length-map}
use Rattle.std.proofs.lemmas.List.Sums.{sum_by-cons}
use Rattle.std.proofs.lemmas.Option.{get_or_from_slice_get, slice_get-get_or, slice_get_within}
use Rattle.trend_num.specs.{most_stored, Rec, TagDef}
use Rattle.trend_model.specs.State.{State}
use Rattle.disk_model.specs.{moment, Device}
use Rattle.calc_refresh.specs.{GroupDefParts, lists_of, total_length, cells_after, limit_fault, most_cells, most_copies, grid_of}
use Rattle.calc_refresh.specs.declared.refusal.SheetNo.TheVariants as sheet
use Rattle.tag_cell.specs.{Entry, TagHistory, taken, ToldCell as Cell, takes_waiting}
use Rattle.group_book.specs.{GroupHistory, SaveNo, Turn, IsPullAhead, lists_at, uncut, ToldBook as Book, versions_of}
use Rattle.group_book.specs.declared.refusal.RefreshNo.TheVariants as refresh
use Rattle.group_book.specs.declared.refusal.SaveNo.TheVariants as save
use Rattle.sheet_law.specs.{longer, complete_windows}
use Rattle.plant_status.specs.{Seen}
use Rattle.plant_status.specs.declared.mismatch.Seen.TheVariants.{Nothing, Number}
use Rattle.plant_status.specs.declared.status.Status.{Status}
use Rattle.plant_status.specs.declared.status.Status.TheVariants.{DeviceFault, WantOfMemory}
use Rattle.plant_status.specs.declared.unit.Unit.TheVariants as unit
use Rattle.plant_status.proofs.Elements.{element}
use Rattle.plant_files.specs.PlanRows.{IsGoodBase}
use Rattle.plant_store.specs.BookEndings.{IsHistoryOfBook}
use Rattle.plant_store.specs.CellClosings.{IsHistoryOfCell}
use Rattle.plant_store.specs.{AreCellsOpened, IsCellOpened, records_opened, cell_records_in}
use Rattle.plant_store.specs.Groups.{DeviceTraces, group_trace_at, input_records_of}
use Rattle.plant_store.specs.Tags.{tag_trace_of}
use Rattle.tag_base.specs.{Base, GroupDef, Refresher}
use Rattle.value_rows.specs.{Query, RawRow}
use Rattle.collector_pool.specs.{WorkerNote}
use Rattle.session_audit.specs.{Item, KeptGroup, Kept, Shown, IsBookRefusal, IsRefreshRefusal, OfRefresh as OfLists, OfSave, save_status, IsCellAsKept, IsCellCopied, IsCellDifference, IsTagAsKept, IsTagDifference, book_tape, cell_tape}
use Rattle.session_audit.specs.{IsMismatchAt, IsCommittedCell, IsTakeRefusal, tag_rows, takes_mismatch, IsDifference, IsFirstPart, Reached, due_of, tape_shows, refreshes, row_ask_of, IsAboveTurns, IsWithinTurns, IsRefreshedTo}
use Rattle.session_audit.specs.{durable_lists, ask_of, take_of, AreOver, LacksRow, file_due}
use Rattle.session_audit.specs.Agendas.{ask_item, phase_item, row_item}
use Rattle.session_audit.specs.BookOpenings.{IsBookAsKept, IsBookCopied, IsBookDifference, IsGroupAsKept, IsGroupDifference}
use Rattle.session_audit.proofs.Begun.{due_of_file}
use Rattle.session_audit.specs.CellRefusals as cell
use Rattle.session_audit.specs.Openings.{AreAsKept, IsOpeningMismatch}
use Rattle.session_audit.specs.Pulls.{IsInputApart, IsInputPulled, IsPullMismatch}
use Rattle.session_report.specs.{Session}
use Rattle.run_command.specs.{Given, AreCellAsksBegun, AreStepsMade, AreCellTakesBegun, AreAsksBegun, AreTakesBegun, AreUnitsOpened, IsGroupOpened, IsGroupRefreshed, IsTagOpened, group_tape, tag_records_of, tag_tape, turns_in}
use Rattle.run_command.specs.Causes.{AreKept, AreTurnsWithin, IsTagKept, IsUnitChanged, IsCommitCause, IsGroupCause, IsRefusalCause, IsOpeningCause, IsPullCause, IsRefreshCause, HasPulled, IsTakeCause, IsTapeCause, IsTapeDifference}
use Rattle.run_command.specs.Causes.{OfDevice, OfLimit, OfRoom, cells_with_all, copies_with_all}
use Rattle.run_command.specs.Causes as cause
use Rattle.run_command.specs.Refusals.{IsFindingRefusal, IsOpening, IsRefused, OfCommit, OfFinding, OfGroup, OfMaking, OfMemory, OfPull, OfRefresh, OfRest, OfStop, OfTag, OfTaking, OfWant}
use Rattle.run_command.specs.Runs.{AreUnitsOpen, IsContinued, IsContinuedGroup, IsOver, IsUndone, IsWorkIn, OfNone, OfSettling}
use Rattle.run_command.proofs.Foreign.{AtAsk, AtRowAsk, AtTake, AtTurns, Finding, found_at, opening_is}
use Rattle.run_command.proofs.Headline.{acknowledged, begun, begun_asks, begun_takes, group_opened, on_tapes, recorded, records_of_tags, refreshed, tag_opened, tags_of, turns_of_group}
use Rattle.run_command.proofs.Mismatches.{differing}
use Rattle.run_command.proofs.Zipped.{zip_at, zip_each, zip_left, zip_length, zip_on, zip_right}

-- what holds of something that is there
some_and : {X : Type 0} (P : X → Type 0) (o : Option X) (x : X) → o ≡ Some x → P x → IsSomeAnd o P
some_and P o x there p = subst (λ o. IsSomeAnd o P) (sym there) p

-- ---- entries of no file

-- an entry that differs from what is due by the progress of its worker differs from what is due by its file
differs_so : {E A : Type 0} (work : E → Option Shown) (item_of : ℕ → ℕ → A → Option Item) (many : ℕ) (files : List (List A))
    (works : List Reached) (unit place : ℕ) (tape : List E) (kept told : Seen) → AreOver item_of many files works
    → IsDifference work (due_of works unit) tape place kept told
    → IsDifference work (λ w. file_due item_of files w unit) tape place kept told
differs_so work item_of many files works unit place tape kept told over d =
    let same = due_of_file item_of many files works over d.worker unit in
    record {
      entry = d.entry;
      worker = d.worker;
      there = d.there;
      shows = d.shows;
      before = λ w. subst (IsFirstPart (tape_shows work w (take place tape))) (due_of_file item_of many files works over w unit) (d.before w);
      told_is = d.told_is ∙ ap (λ l. unwrap_or (slice_get l (length (tape_shows work d.worker (take place tape)))) Nothing) same;
      differ = d.differ;
    }

-- so does that of a tape on which histories agree with what was compared
tape_difference : {C U E A : Type 0} (tape_of : C → List E) (tape : U → List E) (cs : List C) (us : List U)
    → AllZip (λ c u. tape u ≡ tape_of c) cs us → (work : E → Option Shown) (item_of : ℕ → ℕ → A → Option Item) (files : List (List A))
    (works : List Reached) (unit at : ℕ) (kept told : Seen) → AreOver item_of (length cs) files works
    → IsMismatchAt tape_of work cs works unit at kept told → IsTapeDifference tape work item_of files us unit at kept told
tape_difference {C} {U} tape_of tape cs us same work item_of files works unit at kept told over m =
    let u = zip_right IsSame cs us unit m.one same m.there in
    record {
      its = u.0;
      there = u.1;
      differs = subst (λ l. IsDifference work (λ w. file_due item_of files w unit) l at kept told) (sym u.2)
          (differs_so work item_of (length cs) files works unit at (tape_of m.one) kept told over m.differs);
      front = λ k worker x below.
          let there : k < length cs = omega (arith, below, slice_get_within cs unit m.one m.there) in
          let c = element cs k there in
          subst (λ l. IsFirstPart (tape_shows work worker l) (file_due item_of files worker k))
          (sym (zip_at IsSame cs us k c x same (omega (arith, there, zip_length IsSame cs us same))))
          (subst (IsFirstPart (tape_shows work worker (tape_of (get_or cs k c)))) (due_of_file item_of (length cs) files works over worker k)
          (m.front k worker c below));
    }
  where
    IsSame : C → U → Type 0
    IsSame c u = tape u ≡ tape_of c

-- ---- limits

-- a limit that is reported was passed; one of copies is reported only where the cells are not too many
limit_cells : (cells records n : ℕ) → limit_fault cells records ≡ Some (sheet.CellLimit n) → (n ≡ cells) × (most_cells < n)
limit_cells cells records n told = by (nat_lt most_cells cells) (nat_lt most_copies records) refl told
  where
    by : (above many : Bool) → nat_lt most_cells cells ≡ above
        → (if above then Some (sheet.CellLimit cells) else (if many then Some (sheet.CopyLimit records) else None)) ≡ Some (sheet.CellLimit n)
        → (n ≡ cells) × (most_cells < n)
    by true many is same =
        let number : cells ≡ n = cc same in
        (sym number, subst (λ m. most_cells < m) number (ltb-true most_cells cells is))
    by false true is same = absurd (cc same)
    by false false is same = absurd (cc same)

limit_copies : (cells records n : ℕ) → limit_fault cells records ≡ Some (sheet.CopyLimit n)
    → (n ≡ records) × (most_copies < n) × (cells ≤ most_cells)
limit_copies cells records n told = by (nat_lt most_cells cells) (nat_lt most_copies records) refl refl told
  where
    by : (above many : Bool) → nat_lt most_cells cells ≡ above → nat_lt most_copies records ≡ many
        → (if above then Some (sheet.CellLimit cells) else (if many then Some (sheet.CopyLimit records) else None)) ≡ Some (sheet.CopyLimit n)
        → (n ≡ records) × (most_copies < n) × (cells ≤ most_cells)
    by true many is too same = absurd (cc same)
    by false true is too same =
        let number : records ≡ n = cc same in
        (sym number, subst (λ m. most_copies < m) number (ltb-true most_copies records too), ltb-false most_cells cells is)
    by false false is too same = absurd (cc same)

module _ {D : Type 0} (device : D → Device) (base : Base)
    (old new : DeviceTraces) where
  -- ---- openings

  -- the copies are of the cells as they were opened
  first_copies : (opened_cells first : List (Cell D)) (known : List Kept) → AllZip IsContinued opened_cells first
      → AllZip IsCellCopied first known → AllZip IsCellCopied opened_cells known
  first_copies = zip_on IsContinued IsCellCopied IsCellCopied (λ a b k cont copy. record {
    def = copy.def ∙ cont.def;
    summary = copy.summary ∙ cont.summary;
    records = copy.records ∙ cont.records;
    moment = copy.moment ∙ cont.moment;
    faults = copy.faults ∙ cont.faults;
  })

  -- what was kept of cells is what their devices stood for
  known_tags : (defs : List TagDef) (opened_cells : List (Cell D)) (known : List Kept)
      → AreCellsOpened device defs old opened_cells → AllZip IsCellCopied opened_cells known
      → AllZip (λ def (k : Kept). IsTagOpened def (tag_trace_of old def) k.def k.opening) defs known
  known_tags = zip_on
      (λ def (c : Cell D). IsCellOpened def (tag_trace_of old def) (device c.journal.dev) c)
      IsCellCopied (λ def (k : Kept). IsTagOpened def (tag_trace_of old def) k.def k.opening)
      (λ def c k is copy. tag_opened device def (tag_trace_of old def) c k.def k.opening is copy.def copy.records
      copy.summary copy.moment copy.faults)

  -- the records of the copies
  known_lists : (defs : List TagDef) (cells : List (Cell D)) (known : List Kept) → AreCellsOpened device defs old cells
      → AllZip IsCellCopied cells known → cell_records_in cells ≡ map (λ (k : Kept). k.opening.recs.items) known
  known_lists [] [] [] was copied = refl
  known_lists [] [] (k ∷ ks) was copied = absurd copied
  known_lists [] (c ∷ cs) known was copied = absurd was
  known_lists (d ∷ ds) [] known was copied = absurd was
  known_lists (d ∷ ds) (c ∷ cs) [] was copied = absurd copied
  known_lists (d ∷ ds) (c ∷ cs) (k ∷ ks) was copied =
      ap₂ (λ (x : List Rec) xs. x ∷ xs) (ap (λ (x : State). x.records) was.0.state_is ∙ sym copied.0.records)
      (known_lists ds cs ks was.1 copied.1)

  -- how many they are
  known_many : (cells : List (Cell D)) (known : List Kept) → AllZip IsCellCopied cells known
      → ◌≡◌ {A = ℕ} (sum_by (λ (k : Kept). length k.opening.recs.items) known) (records_opened cells)
  known_many [] [] copied = refl
  known_many [] (k ∷ ks) copied = absurd copied
  known_many (c ∷ cs) [] copied = absurd copied
  known_many (c ∷ cs) (k ∷ ks) copied =
      let here : length k.opening.recs.items ≡ length c.opening.recs.items = ap length copied.0.records in
      let rest = known_many cs ks copied.1 in
      let new = sum_by-cons (λ (x : Kept). length x.opening.recs.items) k ks in
      let old_sum = sum_by-cons (λ (x : Cell D). length x.opening.recs.items) c cs in
      omega (arith, here, rest, new, old_sum)

  -- what was kept of a book is what its device stood for
  known_group : (opened_cells : List (Cell D)) (opened_books first : List (Book D)) (known : List KeptGroup) (group : ℕ) (k : KeptGroup)
      (records : List (List Rec)) → cell_records_in opened_cells ≡ records → AreUnitsOpen device base old opened_cells opened_books → AllZip IsContinuedGroup opened_books first
      → AllZip IsBookCopied first known → slice_get known group ≡ Some k
      → (def : GroupDef) × (slice_get base.groups.items group ≡ Some def)
      × IsGroupOpened group def (group_trace_at old def) (input_records_of records def) k.group k.def k.text.items k.opening
  known_group opened_cells opened_books first known group k records same was on copied there =
      let b = zip_left IsBookCopied first known group k copied there in
      let a = zip_left IsContinuedGroup opened_books first group b.0 on b.1 in
      let inside : group < length opened_books = slice_get_within opened_books group a.0 a.1 in
      let of_base : group < length base.groups.items = omega (arith, inside, was.as_many_groups) in
      let d = element base.groups.items group of_base in
      let def = get_or base.groups.items group d in
      let book = was.groups.each group d a.0 inside in
      let here : get_or opened_books group a.0 ≡ a.0 = get_or_from_slice_get opened_books group a.0 a.0 a.1 in
      let cont = a.2 in
      let copy = b.2 in
      let first_versions : k.opening.versions.items ≡ (get_or opened_books group a.0).opening.versions.items =
      copy.versions ∙ cont.versions ∙ ap (λ (x : Book D). x.opening.versions.items) (sym here) in
      let first_rows : lists_of k.opening.rows.items ≡ lists_of (get_or opened_books group a.0).opening.rows.items =
      copy.rows ∙ cont.rows ∙ ap (λ (x : Book D). lists_of x.opening.rows.items) (sym here) in (
        def,
        slice_get-get_or base.groups.items group d of_base,
        group_opened device group def (group_trace_at old def) (input_records_of (cell_records_in opened_cells) def)
            (input_records_of records def) (get_or opened_books group a.0) k.group k.def k.text.items k.opening (ap (λ l. input_records_of l def) same) book
            (copy.group ∙ cont.group ∙ ap (λ (x : Book D). x.group) (sym here)) (copy.def ∙ cont.def ∙ ap (λ (x : Book D). x.def) (sym here))
            (copy.text ∙ cont.text ∙ ap (λ (x : Book D). x.text) (sym here)) first_versions first_rows
            (copy.moment ∙ cont.moment ∙ ap (λ (x : Book D). x.opening.moment) (sym here))
            (copy.faults ∙ cont.faults ∙ ap (λ (x : Book D). x.opening.faults) (sym here)),
      )

  -- what was kept of all of them
  as_kept : (opened_cells first_cells : List (Cell D)) (opened_books first_books : List (Book D)) (known : List Kept)
      (known_groups : List KeptGroup) → AreUnitsOpen device base old opened_cells opened_books
      → AllZip IsContinued opened_cells first_cells → AllZip IsContinuedGroup opened_books first_books
      → AllZip IsCellCopied first_cells known → AllZip IsBookCopied first_books known_groups → AreKept base old known known_groups
  as_kept opened_cells first_cells opened_books first_books known known_groups was on on_books copied copied_books =
      let copies = first_copies opened_cells first_cells known on copied in
      let records = map (λ (k : Kept). k.opening.recs.items) known in
      record {
        tags_are = known_tags base.tags.items opened_cells known was.tags copies;
        as_many = omega (
          arith,
          zip_length IsBookCopied first_books known_groups copied_books,
          zip_length IsContinuedGroup opened_books first_books on_books,
          was.as_many_groups,
        );
        groups_are = λ i k there.
            let found = known_group opened_cells opened_books first_books known_groups i k records
            (known_lists base.tags.items opened_cells known was.tags copies) was on_books copied_books there in
            some_and (λ def. IsGroupOpened i def (group_trace_at old def) (input_records_of records def) k.group k.def k.text.items k.opening)
            (slice_get base.groups.items i) found.0 found.1 found.2;
        few = subst (λ n. n ≤ most_stored) (sym (known_many opened_cells known copies)) was.few;
      }

  module _ (g : Given) (cells : List (Cell D)) (books : List (Book D)) (s : Session) (is : IsOver device base old new cells books s)
      (earlier phases : ℕ) (rows : List (List RawRow)) (queries : List (List Query)) (refreshers : List Refresher)
      (good : IsGoodBase base) (given : IsWorkIn base earlier phases rows queries refreshers g) where
    -- ---- histories

    abbrev IsOfCell : Cell D → TagHistory → Type 0
    IsOfCell c t = IsHistoryOfCell (device c.journal.dev) c t

    tag_at : (tag : ℕ) (c : Cell D) → slice_get cells tag ≡ Some c
        → (t : TagHistory) × (slice_get s.tags.items tag ≡ Some t) × IsOfCell c t
    tag_at tag c there = zip_right IsOfCell cells s.tags.items tag c is.tags there

    -- at a place, whatever is taken where there is none
    cell_of : (i : ℕ) (c : Cell D) (t : TagHistory) → i < length cells → IsOfCell (get_or cells i c) (get_or s.tags.items i t)
    cell_of i c t below = zip_at IsOfCell cells s.tags.items i c t is.tags (omega (arith, below, zip_length IsOfCell cells s.tags.items is.tags))

    group_at : (group : ℕ) (b : Book D) → slice_get books group ≡ Some b
        → (h : GroupHistory) × (slice_get s.groups.items group ≡ Some h) × IsHistoryOfBook device b h
    group_at group b there = zip_right (IsHistoryOfBook device) books s.groups.items group b
        (zip_each (IsHistoryOfBook device) books s.groups.items is.groups.as_many is.groups.each) there

    group_inside : (group : ℕ) (b : Book D) → slice_get books group ≡ Some b → group < length base.groups.items
    group_inside group b there = omega (arith, slice_get_within books group b there, is.as_many_groups)

    -- ---- a changed opening

    -- a cell that is as it was kept has such a history
    tag_kept : (known : List Kept) (i : ℕ) (c : Cell D) (t : TagHistory) (k : Kept) → i < length cells
        → IsCellAsKept (get_or cells i c) (get_or known i k) → IsTagKept (get_or s.tags.items i t) (get_or known i k)
    tag_kept known i c t k there kept =
        let of = cell_of i c t there in
        subst (λ x. IsTagAsKept x (get_or s.tags.items i t).opening (get_or known i k)) (sym of.def_is)
        (subst (λ x. IsTagAsKept (get_or cells i c).def x (get_or known i k)) (sym of.opening_is) kept)

    tag_changed : (known : List Kept) (known_groups : List KeptGroup) (why : Status) → AreKept base old known known_groups
        → IsOpeningMismatch unit.Tag IsCellAsKept IsCellDifference cells known why → IsOpeningCause base old s why
    tag_changed known known_groups why kept differs =
        let d = differing unit.Tag IsCellAsKept IsCellDifference cells known why differs in
        let at = tag_at d.number d.at.one d.at.there in
        record {
          tags = known;
          groups = known_groups;
          kept = kept;
          changed = subst (IsUnitChanged known known_groups s) (sym d.same) (record {
            known = d.at.copy;
            its = at.0;
            known_there = d.at.copy_there;
            there = at.1;
            differs = subst (λ x. IsTagDifference x at.0.opening d.at.copy d.kept d.told) (sym at.2.def_is)
                (subst (λ x. IsTagDifference d.at.one.def x d.at.copy d.kept d.told) (sym at.2.opening_is) d.at.differing);
            front = λ i t k below.
                let there : i < length cells = omega (arith, below, slice_get_within cells d.number d.at.one d.at.there) in
                let c = element cells i there in
                tag_kept known i c t k there (d.at.front i c k below);
          });
        }

    group_changed : (known : List Kept) (known_groups : List KeptGroup) (why : Status) → AreAsKept IsCellAsKept cells known
        → AreKept base old known known_groups → IsOpeningMismatch unit.Group IsBookAsKept IsBookDifference books known_groups why
        → IsOpeningCause base old s why
    group_changed known known_groups why same kept differs =
        let d = differing unit.Group IsBookAsKept IsBookDifference books known_groups why differs in
        let at = group_at d.number d.at.one d.at.there in
        let h = at.0 in
        let b = d.at.one in
        record {
          tags = known;
          groups = known_groups;
          kept = kept;
          changed = subst (IsUnitChanged known known_groups s) (sym d.same) (
            record {
              known = d.at.copy;
              its = h;
              known_there = d.at.copy_there;
              there = at.1;
              differs = subst (λ n. IsGroupDifference n h.def h.text.items h.opening d.at.copy d.kept d.told) (sym at.2.group)
                  (subst (λ x. IsGroupDifference b.group x h.text.items h.opening d.at.copy d.kept d.told) (sym at.2.def)
                  (subst (λ x. IsGroupDifference b.group b.def x h.opening d.at.copy d.kept d.told) (sym at.2.text)
                  (subst (λ x. IsGroupDifference b.group b.def b.text x d.at.copy d.kept d.told) (sym at.2.opening) d.at.differing)));
              front = λ i x k below.
                  let there : i < length books = omega (arith, below, slice_get_within books d.number b d.at.there) in
                  let e = element books i there in
                  let of = is.groups.each i e x there in
                  let it = get_or s.groups.items i x in
                  let kk = get_or known_groups i k in
                  let ee = get_or books i e in
                  subst (λ n. IsGroupAsKept n it.def it.text.items it.opening kk) (sym of.group)
                  (subst (λ y. IsGroupAsKept ee.group y it.text.items it.opening kk) (sym of.def)
                  (subst (λ y. IsGroupAsKept ee.group ee.def y it.opening kk) (sym of.text)
                  (subst (λ y. IsGroupAsKept ee.group ee.def ee.text y kk) (sym of.opening) (d.at.front i e k below))));
            },
            λ i t k below.
                let there : i < length cells = omega (arith, below, zip_length IsOfCell cells s.tags.items is.tags) in
                let c = element cells i there in
                tag_kept known i c t k there (same.each i c k there),
          );
        }

    -- ---- an entry of no file

    tag_difference : {A : Type 0} (work : Entry → Option Shown) (item_of : ℕ → ℕ → A → Option Item) (files : List (List A)) (works : List Reached)
        (tag at : ℕ) (kept told : Seen) → AreOver item_of (length cells) files works → IsMismatchAt cell_tape work cells works tag at kept told
        → IsTapeDifference tag_tape work item_of files s.tags.items tag at kept told
    tag_difference = tape_difference cell_tape tag_tape cells s.tags.items (zip_each (λ c t. tag_tape t ≡ cell_tape c) cells s.tags.items
        (zip_length IsOfCell cells s.tags.items is.tags) (λ i c t below. (cell_of i c t below).tape_is))

    group_difference : {A : Type 0} (work : Turn → Option Shown) (item_of : ℕ → ℕ → A → Option Item) (files : List (List A)) (works : List Reached)
        (group at : ℕ) (kept told : Seen) → AreOver item_of (length books) files works → IsMismatchAt book_tape work books works group at kept told
        → IsTapeDifference group_tape work item_of files s.groups.items group at kept told
    group_difference = tape_difference book_tape group_tape books s.groups.items (zip_each (λ b h. group_tape h ≡ book_tape b) books
        s.groups.items is.groups.as_many (λ i b h below. (is.groups.each i b h below).tape))

    module _ (turns_of : ℕ → ℕ) (same_turns : (i : ℕ) → turns_of i ≡ phases + turns_in i refreshers) where
      -- the turns that a group is given
      turns_at : (group : ℕ) → group < length base.groups.items → get_or g.turns.items group 0 ≡ turns_of group
      turns_at group below =
          turns_of_group device base old new g cells books s is earlier phases rows queries refreshers given group below
          ∙ sym (same_turns group)

      turns_within : IsWithinTurns g.turns.items books → AreTurnsWithin turns_of s
      turns_within within group x below =
          let there : group < length books = omega (arith, below, is.groups.as_many) in
          let b = element books group there in
          omega (
            arith,
            within.each group b there,
            turns_at group (omega (arith, there, is.as_many_groups)),
            ap (λ l. length (refreshes l)) (is.groups.each group b x there).tape,
          )

      tape_cause : (why : Status) → IsFindingRefusal g cells books why → IsTapeCause (phase_item earlier) turns_of rows queries s why
      tape_cause why refused = by (found_at g cells books why refused)
        where
          shown_takes : AreCellTakesBegun g cells → AreTakesBegun (phase_item earlier) rows s
          shown_takes = begun_takes device base old new g cells books s is earlier phases rows queries refreshers given

          shown_asks : AreCellAsksBegun g cells → AreAsksBegun queries s
          shown_asks = begun_asks device base old new g cells books s is earlier phases rows queries refreshers given

          by : Finding g cells books why → IsTapeCause (phase_item earlier) turns_of rows queries s why
          by (AtTake works tag at kept told same over differs) =
              let of_files = subst (λ n. AreOver (phase_item n) (length cells) rows works) given.its.earlier_is
              (subst (λ l. AreOver (phase_item g.work.earlier) (length cells) l works) given.its.collectors over) in
              subst (IsTapeCause (phase_item earlier) turns_of rows queries s) (sym same)
              (tag_difference take_of (phase_item earlier) rows works tag at kept told of_files differs)
          by (AtAsk takes works tag at kept told same over differs) =
              subst (IsTapeCause (phase_item earlier) turns_of rows queries s) (sym same) (
                shown_takes takes,
                tag_difference ask_of ask_item queries works tag at kept told
                    (subst (λ l. AreOver ask_item (length cells) l works) given.its.readers over) differs,
              )
          by (AtRowAsk takes asks works group at kept told same over differs) =
              subst (IsTapeCause (phase_item earlier) turns_of rows queries s) (sym same) (
                shown_takes takes,
                shown_asks asks,
                group_difference row_ask_of row_item queries works group at kept told
                    (subst (λ l. AreOver row_item (length books) l works) given.its.readers over) differs,
              )
          by (AtTurns was group kept told same above) =
              let h = group_at group above.book above.there in
              subst (IsTapeCause (phase_item earlier) turns_of rows queries s) (sym same) (
                begun device base old new g cells books s is earlier phases rows queries refreshers given was,
                record {
                  its = h.0;
                  there = h.1;
                  above = subst (λ l. IsAboveTurns (turns_of group) l kept told) (sym h.2.tape)
                      (subst (λ n. IsAboveTurns n above.book.tape kept told) (turns_at group (group_inside group above.book above.there)) above.above);
                  front = λ k x below.
                      let there : k < length books = omega (arith, below, slice_get_within books group above.book above.there) in
                      let b = element books k there in
                      omega (
                        arith,
                        above.front k b below,
                        turns_at k (omega (arith, there, is.as_many_groups)),
                        ap (λ l. length (refreshes l)) (is.groups.each k b x there).tape,
                      );
                },
              )

      -- ---- a step that cannot be made

      -- a row that the tape of a cell lacks, that of its history lacks
      lacks_row : (tag : ℕ) (c : Cell D) (t : TagHistory) → IsOfCell c t
          → LacksRow take_of (phase_item g.work.earlier) (lists_of g.work.collectors.items) tag c.tape
          → LacksRow take_of (phase_item earlier) rows tag t.tape.items
      lacks_row tag c t of lacks = subst (λ l. LacksRow take_of (phase_item earlier) rows tag l) (sym of.tape_is)
          (subst (λ n. LacksRow take_of (phase_item n) rows tag c.tape) given.its.earlier_is
          (subst (λ l. LacksRow take_of (phase_item g.work.earlier) l tag c.tape) given.its.collectors lacks))

      take_cause : (why : Status) → IsTakeRefusal (phase_item g.work.earlier) (lists_of g.work.collectors.items) cells why
          → IsTakeCause (phase_item earlier) rows s why
      take_cause why (cell.OfBroken tag same so) =
          let t = tag_at tag so.cell so.there in
          OfDevice tag same (some_and (λ t. LacksRow take_of (phase_item earlier) rows tag t.tape.items) (slice_get s.tags.items tag) t.0 t.1
          (lacks_row tag so.cell t.0 t.2 so.so.1))
      take_cause why (cell.OfRoom tag takes many same so) =
          let t = tag_at tag so.cell so.there in
          let on_tape = so.so.0 ∙ ap (λ l. length (taken l)) (sym t.2.tape_is) in
          let of_files = so.so.1 ∙ ap (tag_rows tag) given.its.collectors in
          OfRoom tag (some_and (λ t. (why ≡ takes_mismatch tag (length (taken t.tape.items)) (tag_rows tag rows))
          × LacksRow take_of (phase_item earlier) rows tag t.tape.items) (slice_get s.tags.items tag) t.0 t.1
          (same ∙ ap₂ (takes_mismatch tag) on_tape of_files, lacks_row tag so.cell t.0 t.2 so.so.4))
      take_cause why (cell.OfLimit tag number same so) =
          let t = tag_at tag so.cell so.there in
          OfLimit tag number same
          (some_and (λ t. (number ≡ length t.recs.items) × (◌<◌ _ (number + 2)) × LacksRow take_of (phase_item earlier) rows tag t.tape.items)
          (slice_get s.tags.items tag) t.0 t.1
          (so.so.0 ∙ ap length (sym t.2.records_are), so.so.1, lacks_row tag so.cell t.0 t.2 so.so.2))

      commit_cause : (tag : ℕ) (c : Cell D) (why : Status) → why ≡ DeviceFault (unit.Tag tag) → slice_get cells tag ≡ Some c
          → ((k : ℕ) (d : Cell D) → k < tag → IsCommittedCell (get_or cells k d)) → IsCommitCause s why
      commit_cause tag c why same there front =
          let below : tag < length s.tags.items = omega (arith, slice_get_within cells tag c there, zip_length IsOfCell cells s.tags.items is.tags) in
          record {
            tag = tag;
            told = same;
            there = below;
            front = λ k t before. acknowledged device base old new g cells books s is k t (omega (arith, before, below))
                (λ d. (front k d before).none_waits);
          }

      module _ (committed : All IsCommittedCell cells) (was : AreUnitsOpened base old s) where
        none_wait : All (λ c. takes_waiting c ≡ 0) cells
        none_wait k c below = (committed k c below).none_waits

        refreshed_at : (k : ℕ) (d : GroupDef) (h : GroupHistory) (b : Book D) → k < length s.groups.items
            → IsRefreshedTo (durable_lists cells) (get_or (lists_of g.inputs.items) k []) (get_or g.turns.items k 0) (get_or books k b)
            → IsGroupRefreshed (get_or base.groups.items k d) (turns_of k) s (get_or s.groups.items k h)
        refreshed_at k d h b below to =
            subst (λ n. IsGroupRefreshed (get_or base.groups.items k d) n s (get_or s.groups.items k h)) (sym (same_turns k))
            (refreshed device base old new g cells books s is earlier phases rows queries refreshers good given committed was k d
            h b below to)

        module _ (group : ℕ) (def : GroupDef) (h : GroupHistory) (b : Book D) (of : IsHistoryOfBook device b h)
            (tags : List ℕ) (same_tags : tags ≡ def.inputs.items) (known : All (λ tag. tag < length s.tags.items) def.inputs.items) where
          -- the records that the group would take into account are those of the tags
          lists : lists_at (durable_lists cells) tags ≡ map (tag_records_of s) def.inputs.items
          lists = ap (lists_at (durable_lists cells)) same_tags
              ∙ records_of_tags device base old new g cells books s is def.inputs.items known none_wait

          copies : longer b.sheet.copies (uncut (versions_of b) (lists_at (durable_lists cells) tags)) ≡ copies_with_all s def h
          copies = λ i. longer ((sym of.copies) i) (uncut ((sym of.versions) i) (lists i))

          number_of_cells : cells_after b.sheet (uncut (versions_of b) (lists_at (durable_lists cells) tags)) ≡ cells_with_all s def h
          number_of_cells =
              let w = sym (ap (λ (x : GroupDefParts). grid_of x.start x.period) of.def ∙ sym of.same_grid) in
              let calcs : b.sheet.group ≡ h.def.calcs = sym (ap (λ (x : GroupDefParts). x.calcs) of.def ∙ sym of.same_group) in
              λ i. complete_windows (w i) (copies i) * length (calcs i).calcs

          refresh_cause : (why : Status) → IsBookRefusal (durable_lists cells) tags group b why
              → IsGroupCause s def group h why ⊎ (why ≡ WantOfMemory)
          refresh_cause why (OfLists (refresh.Ahead input version records) ahead same) =
              let to : IsPullAhead (map (tag_records_of s) def.inputs.items) (versions_of b) (refresh.Ahead input version records) =
              subst (λ l. IsPullAhead l (versions_of b) (refresh.Ahead input version records)) lists ahead in
              let within : input < length def.inputs.items = omega (arith, to.0, length-map def.inputs.items (tag_records_of s)) in
              let version_is : version ≡ get_or h.versions.items input 0 = to.1 ∙ ap (λ l. get_or l input 0) (sym of.versions) in
              let records_are : records ≡ length (tag_records_of s (get_or def.inputs.items input 0)) =
              to.2 ∙ ap length (get_or-map (tag_records_of s) def.inputs.items input 0 [] within) in
              inl (subst (IsGroupCause s def group h) (sym same) (
                refl,
                record {
                  within = within;
                  kept_is = ap Number records_are;
                  told_is = ap Number version_is;
                  above = omega (arith, to.3, version_is, records_are);
                  front = λ k below. omega (
                    arith,
                    to.4 k below,
                    ap (λ l. get_or l k 0) (sym of.versions),
                    ap length (get_or-map (tag_records_of s) def.inputs.items k 0 [] (omega (arith, below, within))),
                  );
                },
              ))
          refresh_cause why (OfLists (refresh.CellLimit n) limit same) =
              let told = limit_cells _ _ n limit in
              inl (subst (IsGroupCause s def group h) (sym same) (told.0 ∙ number_of_cells, told.1))
          refresh_cause why (OfLists (refresh.CopyLimit n) limit same) =
              let told = limit_copies _ _ n limit in
              inl (subst (IsGroupCause s def group h) (sym same)
              (told.0 ∙ ap total_length copies, told.1, subst (λ m. m ≤ most_cells) number_of_cells told.2))
          refresh_cause why (OfLists refresh.WantOfMemory limit same) = inr same
          refresh_cause why (OfSave refused) = by refused.why refused.told
            where
              by : (no : SaveNo) → why ≡ save_status group no → IsGroupCause s def group h why ⊎ (why ≡ WantOfMemory)
              by save.Broken same = inl (subst (IsGroupCause s def group h) (sym same) refl)
              by save.DeviceFault same = inl (subst (IsGroupCause s def group h) (sym same) refl)
              by save.WantOfMemory same = inr same

        group_cause : (why : Status) → IsRefreshRefusal (durable_lists cells) (lists_of g.inputs.items) g.turns.items books why
            → IsRefreshCause turns_of base s why ⊎ (why ≡ WantOfMemory)
        group_cause why r =
            let inside = group_inside r.group r.book r.there in
            let d = element base.groups.items r.group inside in
            let def = get_or base.groups.items r.group d in
            let h = group_at r.group r.book r.there in
            let tags = tags_of device base old new g cells books s is r.group d good given.inputs inside in
            elim (refresh_cause r.group def h.0 r.book h.2 (get_or (lists_of g.inputs.items) r.group []) tags.0 tags.1 why r.refused) [
              | inl found ↦ inl (record {
                group = r.group;
                def = def;
                its = h.0;
                def_there = slice_get-get_or base.groups.items r.group d inside;
                there = h.1;
                front = λ k e x below.
                    let there : k < length books = omega (arith, below, slice_get_within books r.group r.book r.there) in
                    let b = element books k there in
                    refreshed_at k e x b (omega (arith, there, is.groups.as_many)) (r.front k b below);
                cause = found;
              })
              | inr memory ↦ inr memory
            ]

        -- what a cell and a book show of a pull, their histories show
        pulled_on : (i k : ℕ) (c : Cell D) (t : TagHistory) (b : Book D) (h : GroupHistory) → IsOfCell c t
            → IsHistoryOfBook device b h → IsInputPulled i k c.tape c.state.records b.tape b.sheet.copies → HasPulled i k t h
        pulled_on i k c t b h of_cell of_book pulled =
            subst (λ l. IsInputPulled i k l t.recs.items h.tape.items (lists_of h.copies.items)) (sym of_cell.tape_is)
            (subst (λ l. IsInputPulled i k c.tape l h.tape.items (lists_of h.copies.items)) (sym of_cell.records_are)
            (subst (λ l. IsInputPulled i k c.tape c.state.records l (lists_of h.copies.items)) (sym of_book.tape)
            (subst (λ l. IsInputPulled i k c.tape c.state.records b.tape l) (sym of_book.copies) pulled)))

        -- the inputs before the one at which a group differs have what was pulled
        module _ (why : Status) (m : IsPullMismatch (lists_of g.inputs.items) cells books why) where
          pulled_before : (i k : ℕ) (d : GroupDef) (h : GroupHistory) (t : TagHistory) (b : Book D) → i < length books
              → k < length (get_or base.groups.items i d).inputs.items
              → ((c : Cell D) → IsInputPulled i k (get_or cells (get_or (get_or (lists_of g.inputs.items) i []) k 0) c).tape
              (get_or cells (get_or (get_or (lists_of g.inputs.items) i []) k 0) c).state.records (get_or books i b).tape
              (get_or books i b).sheet.copies)
              → HasPulled i k (get_or s.tags.items (get_or (get_or base.groups.items i d).inputs.items k 0) t) (get_or s.groups.items i h)
          pulled_before i k d h t b there below pulled =
              let tags = tags_of device base old new g cells books s is i d good given.inputs
              (omega (arith, there, is.as_many_groups)) in
              let tag = get_or (get_or base.groups.items i d).inputs.items k 0 in
              let known : tag < length s.tags.items = tags.1 k 0 below in
              let c = element cells tag (omega (arith, known, zip_length IsOfCell cells s.tags.items is.tags)) in
              let book = get_or books i b in
              pulled_on i k (get_or cells tag c) (get_or s.tags.items tag t) book (get_or s.groups.items i h)
              (zip_at IsOfCell cells s.tags.items tag c t is.tags known) (is.groups.each i b h there)
              (subst (λ l. IsInputPulled i k (get_or cells (get_or l k 0) c).tape (get_or cells (get_or l k 0) c).state.records book.tape
              book.sheet.copies) tags.0 (pulled c))

          front : (i k : ℕ) (d : GroupDef) (h : GroupHistory) (t : TagHistory) → i ≤ m.group
              → k < length (get_or base.groups.items i d).inputs.items → (i ≡ m.group → k < m.differs.input)
              → HasPulled i k (get_or s.tags.items (get_or (get_or base.groups.items i d).inputs.items k 0) t) (get_or s.groups.items i h)
          front i k d h t low below before = elim (cases_lt i m.group) [
            | inl less ↦
                let there : i < length books = omega (arith, less, slice_get_within books m.group m.book m.there) in
                let b = element books i there in
                let tags = tags_of device base old new g cells books s is i d good given.inputs
                (omega (arith, there, is.as_many_groups)) in
                pulled_before i k d h t b there below
                (λ c. (m.front i b less).each k c (subst (λ l. k < length l) (sym tags.0) below))
            | inr more ↦
                let here : i ≡ m.group = omega (arith, low, more) in
                let there = slice_get_within books m.group m.book m.there in
                let book = get_or_from_slice_get books m.group m.book m.book m.there in
                subst (λ n. HasPulled n k (get_or s.tags.items (get_or (get_or base.groups.items n d).inputs.items k 0) t) (get_or s.groups.items n h))
                (sym here)
                (pulled_before m.group k d h t m.book there
                (subst (λ n. k < length (get_or base.groups.items n d).inputs.items) here below)
                (λ c. subst (λ (x : Book D). IsInputPulled m.group k (get_or cells (get_or (get_or (lists_of g.inputs.items) m.group []) k 0) c).tape
                (get_or cells (get_or (get_or (lists_of g.inputs.items) m.group []) k 0) c).state.records x.tape x.sheet.copies) (sym book)
                (m.differs.front k c (before here))))
          ]

          pull_cause : IsPullCause base s why
          pull_cause =
              let inside = group_inside m.group m.book m.there in
              let d = element base.groups.items m.group inside in
              let def = get_or base.groups.items m.group d in
              let h = group_at m.group m.book m.there in
              let of = m.differs in
              let t = tag_at (get_or (get_or (lists_of g.inputs.items) m.group []) of.input 0) of.cell of.there in
              let tags = tags_of device base old new g cells books s is m.group d good given.inputs inside in
              record {
                group = m.group;
                input = of.input;
                def = def;
                its = h.0;
                tag = t.0;
                def_there = slice_get-get_or base.groups.items m.group d inside;
                there = h.1;
                within = subst (λ l. of.input < length l) tags.0 of.within;
                tag_there = subst (λ l. slice_get s.tags.items (get_or l of.input 0) ≡ Some t.0) tags.0 t.1;
                front = front;
                cause = subst (λ l. IsInputApart m.group of.input l t.0.recs.items h.0.tape.items (lists_of h.0.copies.items) why) (sym t.2.tape_is)
                    (subst (λ l. IsInputApart m.group of.input of.cell.tape l h.0.tape.items (lists_of h.0.copies.items) why) (sym t.2.records_are)
                    (subst (λ l. IsInputApart m.group of.input of.cell.tape of.cell.state.records l (lists_of h.0.copies.items) why) (sym h.2.tape)
                    (subst (λ l. IsInputApart m.group of.input of.cell.tape of.cell.state.records m.book.tape l why) (sym h.2.copies) of.differs)));
              }

      -- ---- the cause

      -- no refusal of a group reports that an opening has changed
      no_opening : (group : ℕ) (b : Book D) (tags : List ℕ) (why : Status) → IsBookRefusal (durable_lists cells) tags group b why
          → IsOpening why → ⊥
      no_opening group b tags why (OfLists (refresh.Ahead input version records) ahead same) of = subst IsOpening same of
      no_opening group b tags why (OfLists (refresh.CellLimit n) limit same) of = subst IsOpening same of
      no_opening group b tags why (OfLists (refresh.CopyLimit n) limit same) of = subst IsOpening same of
      no_opening group b tags why (OfLists refresh.WantOfMemory limit same) of = subst IsOpening same of
      no_opening group b tags why (OfSave refused) of = by refused.why refused.told
        where
          by : (no : SaveNo) → why ≡ save_status group no → ⊥
          by save.Broken same = subst IsOpening same of
          by save.DeviceFault same = subst IsOpening same of
          by save.WantOfMemory same = subst IsOpening same of

      -- nor does a pull that differs
      no_opening_apart : (group input : ℕ) (tape : List Entry) (records : List Rec) (turns : List Turn) (copies : List (List Rec)) (why : Status)
          → IsInputApart group input tape records turns copies why → IsOpening why → ⊥
      no_opening_apart group input tape records turns copies why apart of =
          subst (IsInputApart group input tape records turns copies) (opening_is why of).3 apart

      rest_cause : (notes : List WorkerNote) (quiet : Type 0) (why : Status) → ((IsOpening why → ⊥) → AreUnitsOpened base old s)
          → ((IsOpening why → ⊥) → AreStepsMade g cells books → quiet) → IsRefused g notes cells books why → IsRefusalCause (phase_item earlier) turns_of base old rows queries quiet notes s why
      rest_cause notes quiet why was calm (OfFinding finding) = cause.OfTape (tape_cause why finding)
      rest_cause notes quiet why was calm (OfStop within stop) = cause.OfStop (turns_within within) stop
      rest_cause notes quiet why was calm (OfMaking ended (OfTaking taking)) = cause.OfStep ended (cause.OfTake (take_cause why taking))
      rest_cause notes quiet why was calm (OfMaking ended (OfCommit tapes (cell.OfFault tag same so front))) =
          cause.OfStep ended (cause.OfCommit
          (on_tapes device base old new g cells books s is earlier phases rows queries refreshers given tapes)
          (commit_cause tag so.cell why same so.there front))
      rest_cause notes quiet why was calm (OfMaking ended (OfCommit tapes (cell.OfMemory same))) = cause.OfMemory same
      rest_cause notes quiet why was calm (OfMaking ended (OfRefresh tapes committed r)) =
          let opened = was (no_opening r.group r.book (get_or (lists_of g.inputs.items) r.group []) why r.refused) in
          elim (group_cause committed opened why r) [
            | inl found ↦ cause.OfStep ended (cause.OfRefresh
                (recorded device base old new g cells books s is earlier phases rows queries refreshers given tapes committed) found)
            | inr memory ↦ cause.OfMemory memory
          ]
      rest_cause notes quiet why was calm (OfMaking ended (OfMemory same)) = cause.OfMemory same
      rest_cause notes quiet why was calm (OfPull ended made m) =
          let apart = no_opening_apart m.group m.differs.input m.differs.cell.tape m.differs.cell.state.records m.book.tape m.book.sheet.copies why
          m.differs.differs in
          let opened = was apart in
          cause.OfStep ended (cause.OfPull
          (recorded device base old new g cells books s is earlier phases rows queries refreshers given made.tapes made.committed)
          (λ k d h below.
          let there : k < length books = omega (arith, below, is.groups.as_many) in
          let b = element books k there in
          refreshed_at made.committed opened k d h b below (made.refreshed.each k b there))
          (calm apart made) (pull_cause made.committed opened why m))
      rest_cause notes quiet why was calm (OfWant same) = cause.OfMemory same

      pub refusal_cause : (opened_cells first : List (Cell D)) (opened_books first_books : List (Book D)) (notes : List WorkerNote) (quiet : Type 0) (why : Status)
          → AreUnitsOpen device base old opened_cells opened_books → AllZip IsContinued opened_cells first
          → AllZip IsContinuedGroup opened_books first_books → ((IsOpening why → ⊥) → AreUnitsOpened base old s)
          → ((IsOpening why → ⊥) → AreStepsMade g cells books → quiet)
          → IsUndone g first first_books cells books notes why
          → IsRefusalCause (phase_item earlier) turns_of base old rows queries quiet notes s why
      refusal_cause opened_cells first opened_books first_books notes quiet why opening on on_books was calm (OfSettling known known_groups copied groups_copied (OfTag differs)) =
          cause.OfOpening (tag_changed known known_groups why
          (as_kept opened_cells first opened_books first_books known known_groups opening on on_books copied groups_copied) differs)
      refusal_cause opened_cells first opened_books first_books notes quiet why opening on on_books was calm (OfSettling known known_groups copied groups_copied (OfGroup kept differs)) =
          cause.OfOpening (group_changed known known_groups why kept
          (as_kept opened_cells first opened_books first_books known known_groups opening on on_books copied groups_copied) differs)
      refusal_cause opened_cells first opened_books first_books notes quiet why opening on on_books was calm (OfSettling known known_groups copied groups_copied (OfRest refused)) =
          rest_cause notes quiet why was calm refused
      refusal_cause opened_cells first opened_books first_books notes quiet why opening on on_books was calm (OfNone same) = cause.OfMemory same
