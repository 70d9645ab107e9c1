use Rattle.std.proofs.Common.{◌≡◌, ◌≢◌, ◌∙◌, [], All, List, ap, arith, get_or, IfSome, length, map, subst, sym}
use Rattle.std.proofs.lemmas.List.{length-map}
use Rattle.std.proofs.lemmas.List.Elements.{All-map}
use Rattle.trend_num.specs.{Rec}
use Rattle.calc_refresh.specs.{IsCopy}
use Rattle.group_layout.specs.{GainsGroupSync}
use Rattle.group_book.specs.declared.refusal.LoadNo.TheVariants.{DeviceFault, WantOfMemory}
use Rattle.group_book.specs.{lists_at, IsBookCause, BookStaysSame, device_name_of}
use Rattle.disk_model.specs.{During, Trace}
use Rattle.branded_disk.specs.{branded, untold}
use Rattle.plant_store.specs.BookEndings.{IsBackUnder, trace_after}
use Rattle.plant_store.specs.Groups.{IsBookOpened, group_definition_text, group_parts_of, group_trace_at, input_records_of}
use Rattle.plant_store.proofs.BookCauses.{fails}
use Rattle.plant_store.proofs.BookTurns.{still}
use Rattle.store_commands.specs.FrameRows.{AreFrameRows, IsFrameRowsRefusal}
use Rattle.store_commands.specs.GroupRows.{tag_records}
use Rattle.store_commands.specs.{IsOverIn, IsRefreshedOnce, book_cells}
use Rattle.store_commands.proofs.FrameBooks.{all_times, given_back, inputs_copied, not_opened, over_book, refreshed_back, rows_of_book}
use Rattle.store_commands.proofs.frame_refreshing.rows_of.Goals as goal

pub returns-in_default-clause-same : goal.returns-in_default-clause-same
returns-in_default-clause-same g c = still c.args.group.now _

pub returns-in-Err-clause-refused : goal.returns-in-Err-clause-refused
returns-in-Err-clause-refused g c =
    let group = c.args.group.now in
    let i = c.args.place.group in
    let recovered = input_records_of (tag_records c.args.cores.now) group in
    let old = g.S.Store.device_at c.args.store.now in
    let new = g.S.Store.device_at c.open_book.new.store in
    let before = g.S.Store.fault_count c.args.store.now in
    let now = g.S.Store.fault_count c.open_book.new.store in
    let why = c.in-Err.why in
    let lists = ap (map (λ r. r.now)) c.deref.ensures.value ∙ c.in-Ok.ensures.records in
    subst (IsFrameRowsRefusal i group recovered (group_trace_at old group) (group_trace_at new group) before now) (sym c.book_status.ensures)
    (not_opened i group recovered (group_trace_at old group) (group_trace_at new group) before now why
    (subst (λ n. IsBookCause (group_definition_text group) (group_parts_of group) recovered (old n) why) c.requires.name
    (subst (λ l. IsBookCause (group_definition_text group) (group_parts_of group) (input_records_of l group) (old c.args.name.now) why) lists
    c.in-Err.ensures.cause))
    (subst (λ n. why ≢ DeviceFault → why ≢ WantOfMemory → GainsGroupSync (group_definition_text group) (old n) (new n)) c.requires.name
    c.in-Err.ensures.synced) (λ small is. fails why before now (c.in-Err.ensures.counts small) is))

pub returns-in-Ok-refreshed-clause-rows : goal.returns-in-Ok-refreshed-clause-rows
returns-in-Ok-refreshed-clause-rows g c =
    let D = g.S.Dev.Disk in
    let group = c.args.group.now in
    let i = c.args.place.group in
    let records = tag_records c.args.cores.now in
    let old = g.S.Store.device_at c.args.store.now in
    let book = c.in-Ok-open_book.book in
    let lists = ap (map (λ r. r.now)) c.deref.ensures.value ∙ c.in-Ok.ensures.records in
    let lists_then = ap (map (λ r. r.now)) c.deref-2.ensures.value ∙ c.in-Ok.ensures.records in
    let opened = subst (λ n. IsBookOpened (branded D.device untold) i group (input_records_of records group) (old n) book) c.requires.name
    (subst (λ l. IsBookOpened (branded D.device untold) i group (input_records_of l group) (old c.args.name.now) book) lists
    c.in-Ok-open_book.ensures.opened) in
    rows_of_book (branded D.device untold) i group records (group_trace_at old group) book opened c.refresh_once-refreshed.new.book
    c.close_book-history.result c.args.place.calc c.both_rows.result.saved.items c.both_rows.result.refreshed.items
    (subst (λ l. IsRefreshedOnce l book c.refresh_once-refreshed.new.book) lists_then c.in-Ok-refreshed.ensures.refreshed)
    c.close_book-history.ensures.history c.refresh_once-refreshed.ensures.same_grid c.refresh_once-refreshed.ensures.inputs
    c.requires.sound.some_period c.both_rows.ensures.saved c.both_rows.ensures.refreshed

pub returns-in-Ok-refreshed-clause-times : goal.returns-in-Ok-refreshed-clause-times
returns-in-Ok-refreshed-clause-times g c =
    let group = c.args.group.now in
    let records = tag_records c.args.cores.now in
    let recovered = input_records_of records group in
    let rows : AreFrameRows group c.args.place.calc recovered (group_trace_at (g.S.Store.device_at c.args.store.now) group)
    c.both_rows.result.saved.items c.both_rows.result.refreshed.items
    = returns-in-Ok-refreshed-clause-rows g c in
    all_times group recovered (length c.both_rows.result.refreshed.items) c.requires.sound.some_period
    (omega (arith, c.requires.sound.some_inputs, length-map group.inputs.items (λ tag. get_or records tag [])))
    (inputs_copied records group.inputs.items
    (subst (λ (l : List (List Rec)). All IsCopy l) c.in-Ok.ensures.records (All-map IsCopy (λ r. r.now) c.in-Ok.records.items c.in-Ok.ensures.copied)))
    rows.complete

pub returns-clause-refused : goal.returns-clause-refused
returns-clause-refused g c =
    let D = g.S.Dev.Disk in
    let group = c.args.group.now in
    let i = c.args.place.group in
    let records = tag_records c.args.cores.now in
    let recovered = input_records_of records group in
    let old = g.S.Store.device_at c.args.store.now in
    let mid = g.S.Store.device_at c.open_book.new.store in
    let new = g.S.Store.device_at c.close_book-history.new.store in
    let before = g.S.Store.fault_count c.args.store.now in
    let now = g.S.Store.fault_count c.close_book-history.new.store in
    let book = c.in-Ok-open_book.book in
    let closed = c.refresh_once-refreshed.new.book in
    let lists = ap (map (λ r. r.now)) c.deref.ensures.value ∙ c.in-Ok.ensures.records in
    let lists_then = ap (map (λ r. r.now)) c.deref-2.ensures.value ∙ c.in-Ok.ensures.records in
    let opened = subst (λ n. IsBookOpened (branded D.device untold) i group (input_records_of records group) (old n) book) c.requires.name
    (subst (λ l. IsBookOpened (branded D.device untold) i group (input_records_of l group) (old c.args.name.now) book) lists
    c.in-Ok-open_book.ensures.opened) in
    let synced = given_back (branded D.device untold) i group records (group_trace_at old group) book opened closed (group_trace_at mid group)
    (group_trace_at new group) (GainsGroupSync (group_definition_text group) (group_trace_at old group)) (ap (λ b. b.dev) c.in-Err-refreshed.ensures.unchanged)
    (subst (λ n. new n ≡ trace_after (branded D.device untold) closed.dev (mid n)) c.requires.name
    (c.close_book-history.ensures.given (c.requires.name ∙ sym opened.named
    ∙ ap (λ b. device_name_of b.text) (sym c.in-Err-refreshed.ensures.unchanged)))) opened.synced in
    subst (IsFrameRowsRefusal i group recovered (group_trace_at old group) (group_trace_at new group) before now) (sym c.refusal_of.ensures)
    (over_book (branded D.device untold) i group records (group_trace_at old group) book opened (group_trace_at new group) before now
    c.in-Err-refreshed.no c.refresh_once-refreshed.ensures.same_grid
    synced
    (subst (λ l. IsOverIn (book_cells book.def (lists_at l book.tags)) (lists_at l book.tags) c.in-Err-refreshed.no) lists_then
    c.in-Err-refreshed.ensures.refused))

-- what holds of the calls of the book's device holds of those under its name
kept : (g : _) (c : goal.After-drop-records-in-Ok-refreshed g) (P : Trace → Type 0)
    → (IsBookOpened (branded g.S.Dev.Disk.device untold) c.args.place.group c.args.group.now (input_records_of (tag_records c.args.cores.now) c.args.group.now)
    (group_trace_at (g.S.Store.device_at c.args.store.now) c.args.group.now) c.in-Ok-open_book.book
    → IfSome c.in-Ok-open_book.book.dev (λ d. P (branded g.S.Dev.Disk.device untold d).trace))
    → P (group_trace_at (g.S.Store.device_at c.close_book-history.new.store) c.args.group.now)
kept g c P holds =
    let D = g.S.Dev.Disk in
    let group = c.args.group.now in
    let i = c.args.place.group in
    let records = tag_records c.args.cores.now in
    let old = g.S.Store.device_at c.args.store.now in
    let mid = g.S.Store.device_at c.open_book.new.store in
    let new = g.S.Store.device_at c.close_book-history.new.store in
    let book = c.in-Ok-open_book.book in
    let closed = c.refresh_once-refreshed.new.book in
    let lists = ap (map (λ r. r.now)) c.deref.ensures.value ∙ c.in-Ok.ensures.records in
    let lists_then = ap (map (λ r. r.now)) c.deref-2.ensures.value ∙ c.in-Ok.ensures.records in
    let opened = subst (λ n. IsBookOpened (branded D.device untold) i group (input_records_of records group) (old n) book) c.requires.name
    (subst (λ l. IsBookOpened (branded D.device untold) i group (input_records_of l group) (old c.args.name.now) book) lists
    c.in-Ok-open_book.ensures.opened) in
    refreshed_back (branded D.device untold) i group records (group_trace_at old group) book opened closed (group_trace_at mid group) (group_trace_at new group) P
    (subst (λ l. IsRefreshedOnce l book closed) lists_then c.in-Ok-refreshed.ensures.refreshed)
    (subst (λ n. IsBackUnder (branded D.device untold) closed n (mid n) (new n)) c.requires.name c.close_book-history.ensures.given)
    (holds opened)

pub returns-in-Ok-refreshed-clause-synced : goal.returns-in-Ok-refreshed-clause-synced
returns-in-Ok-refreshed-clause-synced g c =
    let group = c.args.group.now in
    kept g c (GainsGroupSync (group_definition_text group) (group_trace_at (g.S.Store.device_at c.args.store.now) group)) (λ opened. opened.synced)

pub returns-in-Ok-refreshed-clause-same : goal.returns-in-Ok-refreshed-clause-same
returns-in-Ok-refreshed-clause-same g c =
    let group = c.args.group.now in
    let o = group_trace_at (g.S.Store.device_at c.args.store.now) group in
    kept g c (λ t. During o t (BookStaysSame (group_definition_text group) (group_parts_of group) o)) (λ opened. opened.same)

pub returns-clause-same : goal.returns-clause-same
returns-clause-same g c =
    let device = branded g.S.Dev.Disk.device untold in
    let group = c.args.group.now in
    let i = c.args.place.group in
    let records = tag_records c.args.cores.now in
    let old = g.S.Store.device_at c.args.store.now in
    let mid = g.S.Store.device_at c.open_book.new.store in
    let new = g.S.Store.device_at c.close_book-history.new.store in
    let o = group_trace_at old group in
    let book = c.in-Ok-open_book.book in
    let closed = c.refresh_once-refreshed.new.book in
    let lists = ap (map (λ r. r.now)) c.deref.ensures.value ∙ c.in-Ok.ensures.records in
    let opened = subst (λ n. IsBookOpened device i group (input_records_of records group) (old n) book) c.requires.name
    (subst (λ l. IsBookOpened device i group (input_records_of l group) (old c.args.name.now) book) lists
    c.in-Ok-open_book.ensures.opened) in
    given_back device i group records o book opened closed (group_trace_at mid group) (group_trace_at new group)
    (λ t. During o t (BookStaysSame (group_definition_text group) (group_parts_of group) o))
    (ap (λ b. b.dev) c.in-Err-refreshed.ensures.unchanged)
    (subst (λ n. new n ≡ trace_after device closed.dev (mid n)) c.requires.name
    (c.close_book-history.ensures.given (c.requires.name ∙ sym opened.named
    ∙ ap (λ b. device_name_of b.text) (sym c.in-Err-refreshed.ensures.unchanged)))) opened.same
