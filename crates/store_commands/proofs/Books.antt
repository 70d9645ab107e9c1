-- Books that are opened, refreshed once, and closed.
use Rattle.std.proofs.Common.{◌≡◌, inl, ℕ, ◌<◌, ◌≤◌, List, [], ◌∷◌, All, length, map, get_or, string_bytes, Result, Ok, Err, refl, sym, ap, ap₂, subst, ◌∙◌, arith}
use Rattle.std.specs.Prelude.{IfErr, IfOk, IfSome, OnOk, String}
use Rattle.std.specs.Result.{result_and}
use Rattle.std.specs.declared.alloc.Global.{Global}
use Rattle.std.proofs.lemmas.List.{get_or-map, get_or_default, length-map}
use Rattle.trend_num.specs.{Rec}
use Rattle.disk_model.specs.{During, Trace, Device}
use Rattle.calc_refresh.specs.{GroupDefParts, lists_of, grid_of}
use Rattle.sheet_law.specs.{IsScratch}
use Rattle.tag_base.specs.{GroupDef}
use Rattle.group_layout.specs.{GainsGroupSync}
use Rattle.plant_status.specs.declared.status.Status.{Status}
use Rattle.group_book.specs.{GroupHistory, GroupOpening, RefreshNo, AreRowsOver, IsRight, BookStaysSame, ToldBook, device_name_of, faults_of, lists_at, cut}
use Rattle.group_book.specs.declared.refusal.RefreshNo.TheVariants.{Ahead, CellLimit, CopyLimit, WantOfMemory}
use Rattle.plant_store.specs.BookEndings.{AreGivenBack, AreHistoriesOf, IsHistoryOfBook, trace_after}
use Rattle.plant_store.specs.Groups.{AllStaySame, AreBooksOpened, AreNamesOf, DeviceTraces, IsBookOpened, group_parts_of, input_records_of, group_definition_text, group_trace_at}
use Rattle.plant_store.specs.BookRefusals.{CountsStore}
use Rattle.plant_store.proofs.BookCauses.{back_is, front_of}
use Rattle.plant_store.proofs.BookNames.{as_many, named_at}
use Rattle.plant_status.proofs.Elements.{element}
use Rattle.store_commands.specs.{Rows, rows_in, AreCutBooks, AreRefreshedOnce, AreWithinLimits, HaveDevicesOf, IsOverIn, IsOverSome, IsRefreshedOnce, book_cells, refresh_status}
use Rattle.store_commands.specs.GroupRows.{AllGainSync, AreGroupsTold, AreRowsTold, cells_of, IsGroupTold, IsGroupRowsRefusal, IsTooMuchAt, OfCells, OfCopies, OfWant}

-- books that were opened have the first records of their tags
pub cut_books : {D : Type 0} (device : D → Device) (groups : List GroupDef) (records : List (List Rec))
    (old : DeviceTraces) (books : List (ToldBook D)) → length books ≡ length groups
    → AreBooksOpened device groups records old books → AreCutBooks records books
cut_books device [] records old books many opened i b below = absurd (omega (arith, below, many))
cut_books device (g ∷ gs) records old books many opened i b below =
    let book = opened.each i g b below in
    record { copies = book.copies ∙ ap₂ cut book.versions (ap (lists_at records) (sym book.tags)) }

-- ---- one refresh after the other

-- the first books are refreshed, and the others are as they were
pub record AreRefreshedTo {D : Type 0} (records : List (List Rec)) (upto : ℕ) (old now : List (ToldBook D)) : Type 0 where
  pub devices : HaveDevicesOf old now
  pub done : (i : ℕ) (b : ToldBook D) → i < upto → IsRefreshedOnce records (get_or old i b) (get_or now i b)
  pub to_come : (i : ℕ) (b : ToldBook D) → upto ≤ i → get_or now i b ≡ get_or old i b

-- ---- what they come to

-- one group
pub rows_told : {D : Type 0} (device : D → Device) (i : ℕ) (g : GroupDef) (recovered : List (List Rec))
    (o : Trace) (b c : ToldBook D) (h : GroupHistory) → IsBookOpened device i g recovered o b → c.sheet.copies ≡ recovered
    → AreWithinLimits (book_cells b.def recovered) recovered → c ≡ record b { tape = c.tape; sheet = c.sheet }
    → IsHistoryOfBook device c h → AreRowsTold g recovered b.opening (lists_of h.rows.items)
rows_told device i g recovered o b c h book copies within changed told = record {
  within = subst (λ d. AreWithinLimits (book_cells d recovered) recovered) book.def within;
  rows_are =
      subst (λ (d : GroupDefParts). AreRowsOver d.calcs (grid_of d.start d.period) b.opening recovered (lists_of h.rows.items))
      (told.def ∙ ap (λ x. x.def) changed ∙ book.def)
      (subst (λ (x : GroupOpening). AreRowsOver h.def.calcs (grid_of h.def.start h.def.period) x recovered (lists_of h.rows.items))
      (told.opening ∙ ap (λ x. x.opening) changed)
      (subst (λ (l : List (List Rec)). AreRowsOver h.def.calcs (grid_of h.def.start h.def.period) h.opening l (lists_of h.rows.items))
      (told.copies ∙ copies) told.history.evaluated.rows_are));
  scratch = subst (λ (d : GroupDefParts). IsRight d.calcs (grid_of d.start d.period) b.opening recovered
      → IsScratch d.calcs (grid_of d.start d.period) recovered (lists_of h.rows.items))
      (told.def ∙ ap (λ x. x.def) changed ∙ book.def)
      (subst (λ (x : GroupOpening). IsRight h.def.calcs (grid_of h.def.start h.def.period) x recovered
      → IsScratch h.def.calcs (grid_of h.def.start h.def.period) recovered (lists_of h.rows.items))
      (told.opening ∙ ap (λ x. x.opening) changed)
      (subst (λ (l : List (List Rec)). IsRight h.def.calcs (grid_of h.def.start h.def.period) h.opening l
      → IsScratch h.def.calcs (grid_of h.def.start h.def.period) l (lists_of h.rows.items))
      (told.copies ∙ copies) told.history.legal.scratch));
}

-- all groups
pub all_told : {D : Type 0} (device : D → Device) (groups : List GroupDef) (records : List (List Rec))
    (old : DeviceTraces) (books closed : List (ToldBook D)) (hs : List GroupHistory) → length books ≡ length groups
    → AreBooksOpened device groups records old books → HaveDevicesOf books closed
    → AreRefreshedOnce records books closed → AreHistoriesOf device closed hs
    → AreGroupsTold groups records old (rows_in hs)
all_told {D} device groups records old books closed hs many opened devices once told = record {
  as_many = length-map hs rows_of ∙ told.as_many ∙ devices.as_many ∙ many;
  each = λ i g r below. by i g r below books hs refl refl;
}
  where
    rows_of : GroupHistory → Rows
    rows_of h = lists_of h.rows.items

    by : (i : ℕ) (g : GroupDef) (r : Rows) → i < length groups → (bs : List (ToldBook D)) (all : List GroupHistory) → bs ≡ books → all ≡ hs
        → IsGroupTold (get_or groups i g) (input_records_of records (get_or groups i g)) (group_trace_at old (get_or groups i g)) (get_or (rows_in hs) i r)
    by i g r below [] all is same = absurd (omega (arith, below, many, ap length is))
    by i g r below (b ∷ bs) [] is same = absurd (omega (arith, below, many, devices.as_many, told.as_many, ap length same))
    by i g r below (b ∷ bs) (h ∷ all) is same =
        let book = opened.each i g b (omega (arith, below, many)) in
        let one = once i b (omega (arith, below, many)) in
        subst (λ x. IsGroupTold (get_or groups i g) (input_records_of records (get_or groups i g)) (group_trace_at old (get_or groups i g)) x)
        (sym (get_or-map rows_of hs i h r (omega (arith, below, many, devices.as_many, told.as_many))))
        (record {
          opening = (get_or books i b).opening;
          opened = book.opening;
          rows_are = rows_told device i (get_or groups i g) (input_records_of records (get_or groups i g))
              (group_trace_at old (get_or groups i g)) (get_or books i b) (get_or closed i b) (get_or hs i h) book
              (one.copies ∙ ap (lists_at records) book.tags)
              (subst (λ (l : List (List Rec)). AreWithinLimits (book_cells (get_or books i b).def l) l) (ap (lists_at records) book.tags) one.within)
              one.changed (told.each i b h (omega (arith, below, many, devices.as_many)));
        })

-- the device of each is back under its name, and what holds of the device's calls holds of those there
device_back : {D : Type 0} (device : D → Device) (groups : List GroupDef) (names : List (String Global))
    (records : List (List Rec)) (old mid new : DeviceTraces) (books closed : List (ToldBook D)) → AreNamesOf groups names
    → length books ≡ length groups → AreBooksOpened device groups records old books → HaveDevicesOf books closed
    → AreGivenBack device names closed mid new → (i : ℕ) (g : GroupDef) (b : ToldBook D) → i < length groups
    → (P : Trace → Type 0) → IfSome (get_or books i b).dev (λ d. P (device d).trace) → P (group_trace_at new (get_or groups i g))
device_back device groups [] records old mid new books closed are many opened devices given i g b below P holds =
    absurd (omega (arith, below, as_many groups [] are))
device_back device groups (s ∷ ss) records old mid new books closed are many opened devices given i g b below P holds =
    let book = opened.each i g b (omega (arith, below, many)) in
    let was = mid (string_bytes (get_or (s ∷ ss) i s)) in
    let is = ap new (sym (named_at groups (s ∷ ss) i g s are below)) ∙ given i b s (omega (arith, below, many, devices.as_many))
    (named_at groups (s ∷ ss) i g s are below ∙ sym book.named ∙ ap device_name_of (sym (devices.texts i b)))
    ∙ ap (λ dev. trace_after device dev was) (devices.each i b) in
    subst P (sym is) (back_is device (get_or books i b).dev was P book.has_device holds)

-- and stays the same
pub all_back : {D : Type 0} (device : D → Device) (groups : List GroupDef) (names : List (String Global))
    (records : List (List Rec)) (old mid new : DeviceTraces) (books closed : List (ToldBook D)) → AreNamesOf groups names
    → length books ≡ length groups → AreBooksOpened device groups records old books → HaveDevicesOf books closed
    → AreGivenBack device names closed mid new → AllStaySame groups old new
all_back device groups names records old mid new books closed are many opened devices given i g below =
    let there : i < length books = omega (arith, below, many) in
    let b = element books i there in
    device_back device groups names records old mid new books closed are many opened devices given i g b below
    (λ o. During (group_trace_at old (get_or groups i g)) o
    (BookStaysSame (group_definition_text (get_or groups i g)) (group_parts_of (get_or groups i g)) (group_trace_at old (get_or groups i g))))
    (opened.each i g b there).same

-- and gained a sync alone, if it was whole
pub all_synced : {D : Type 0} (device : D → Device) (groups : List GroupDef) (names : List (String Global))
    (records : List (List Rec)) (old mid new : DeviceTraces) (books closed : List (ToldBook D)) → AreNamesOf groups names
    → length books ≡ length groups → AreBooksOpened device groups records old books → HaveDevicesOf books closed
    → AreGivenBack device names closed mid new → AllGainSync groups old new
all_synced device groups names records old mid new books closed are many opened devices given i g below =
    let there : i < length books = omega (arith, below, many) in
    let b = element books i there in
    device_back device groups names records old mid new books closed are many opened devices given i g b below
    (λ o. GainsGroupSync (group_definition_text (get_or groups i g)) (group_trace_at old (get_or groups i g)) o)
    (opened.each i g b there).synced

-- none has counted a fault
pub none_counted : {D : Type 0} (device : D → Device) (groups : List GroupDef) (records : List (List Rec))
    (old : DeviceTraces) (books closed : List (ToldBook D)) → length books ≡ length groups
    → AreBooksOpened device groups records old books → HaveDevicesOf books closed
    → All (λ b. faults_of device b.dev ≡ 0) closed
none_counted device [] records old books closed many opened devices i b below =
    absurd (omega (arith, below, many, devices.as_many))
none_counted device (g ∷ gs) records old books closed many opened devices i b below =
    ap (faults_of device) (devices.each i b) ∙ (opened.each i g b (omega (arith, below, devices.as_many))).faultless

pub counts_same : {T : Type 0} {before now : ℕ} (r : Result T Status) → now ≡ before → CountsStore r before now
counts_same (Ok x) same = same
counts_same (Err why) same = inl same

-- ---- the histories, where all books were refreshed

pub ok_and : {T U E A : Type 0} (P : U → Type 0) (r : Result T E) (x : U) (s : Result U E) → s ≡ result_and r (Ok x) → (A → P x)
    → OnOk r A → IfOk s P
ok_and P (Ok t) x s same follows a = subst (λ v. IfOk v P) (sym same) (follows a)
ok_and P (Err e) x s same follows a = subst (λ v. IfOk v P) (sym same) tt

pub ok_always : {T E A : Type 0} (r : Result T E) → A → OnOk r A
ok_always (Ok t) a = a
ok_always (Err e) a = tt

pub err_and : {T U E : Type 0} (P Q : E → Type 0) (r : Result T E) (x : U) (s : Result U E) → s ≡ result_and r (Ok x)
    → ((e : E) → P e → Q e) → IfErr r P → IfErr s Q
err_and P Q (Ok t) x s same follows p = subst (λ v. IfErr v Q) (sym same) tt
err_and P Q (Err e) x s same follows p = subst (λ v. IfErr v Q) (sym same) (follows e p)

-- ---- a group that comes to too much

pub over_some : {D : Type 0} (device : D → Device) (groups : List GroupDef) (records : List (List Rec))
    (old new : DeviceTraces) (books : List (ToldBook D)) (before now : ℕ) (s : Status) → length books ≡ length groups
    → AreBooksOpened device groups records old books → AllGainSync groups old new → IsOverSome records books s
    → IsGroupRowsRefusal groups records old new before now s
over_some device [] records old new books before now s many opened synced over = absurd (omega (arith, over.there, many))
over_some device (g ∷ gs) records old new [] before now s many opened synced over = absurd (omega (arith, many))
over_some {D} device (g ∷ gs) records old new (b ∷ bs) before now s many opened synced over =
    by over.why
    (subst (λ d. IsOverIn (book_cells d (input_records_of records (get_or (g ∷ gs) over.i g))) (input_records_of records (get_or (g ∷ gs) over.i g)) over.why)
    (opened.each over.i g b over.there).def
    (subst (λ l. IsOverIn (book_cells (get_or (b ∷ bs) over.i b).def (lists_at records l)) (lists_at records l) over.why)
    (opened.each over.i g b over.there).tags (over.over b))) over.told
  where
    before_it : (k : ℕ) (d : GroupDef) → k < over.i
        → AreWithinLimits (cells_of (get_or (g ∷ gs) k d) (input_records_of records (get_or (g ∷ gs) k d)))
        (input_records_of records (get_or (g ∷ gs) k d))
    before_it k d low =
        let book = opened.each k d b (omega (arith, low, over.there)) in
        subst (λ x. AreWithinLimits (book_cells x (input_records_of records (get_or (g ∷ gs) k d))) (input_records_of records (get_or (g ∷ gs) k d)))
        book.def
        (subst (λ l. AreWithinLimits (book_cells (get_or (b ∷ bs) k b).def (lists_at records l)) (lists_at records l)) book.tags
        (over.front k b low))

    much : (P : GroupDef → List (List Rec) → Type 0) → P (get_or (g ∷ gs) over.i g) (input_records_of records (get_or (g ∷ gs) over.i g))
        → IsTooMuchAt (g ∷ gs) records old new over.i P
    much P p = record {
      g = get_or (g ∷ gs) over.i g;
      openings = map (λ b. b.opening) (b ∷ bs);
      there = omega (arith, over.there, many);
      is_group = get_or_default (g ∷ gs) over.i (get_or (g ∷ gs) over.i g) g (omega (arith, over.there, many));
      opened = λ k d x below. front_of device (g ∷ gs) records old (b ∷ bs) opened k d x (omega (arith, below, many));
      front = before_it;
      over = p;
      synced = synced;
    }

    by : (why : RefreshNo) → IsOverIn (cells_of (get_or (g ∷ gs) over.i g) (input_records_of records (get_or (g ∷ gs) over.i g)))
        (input_records_of records (get_or (g ∷ gs) over.i g)) why
        → s ≡ refresh_status why → IsGroupRowsRefusal (g ∷ gs) records old new before now s
    by (Ahead input version found) is told = absurd is
    by (CellLimit n) is told = OfCells over.i n told (much _ is)
    by (CopyLimit n) is told = OfCopies over.i n told (much _ is)
    by WantOfMemory is told = OfWant told
