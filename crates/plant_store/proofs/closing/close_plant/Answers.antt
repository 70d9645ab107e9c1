use Rattle.std.proofs.Common.{◌≢◌, ap, arith, length, string_bytes, subst, sym}
use Rattle.std.specs.Prelude.{AllPairs, IsTrue, String}
use Rattle.std.specs.declared.alloc.Global.{Global}
use Rattle.std.proofs.lemmas.List.Elements.{All-weaker}
use Rattle.branded_disk.specs.{branded}
use Rattle.plant_store.specs.CellClosings.{AreGivenBack, AreHistoriesAt}
use Rattle.plant_store.specs.{AreApart, HasPlaces, texts, AreOtherNamesSame, HavePlaces}
use Rattle.plant_store.specs.BookEndings.{AreGivenBack as AreBooksBack}
use Rattle.plant_store.proofs.Backs.{all_back, all_counted}
use Rattle.plant_store.proofs.closing.close_plant.Goals as goal

-- ---- the books come back

pub close_books-requires-clause-as_many : goal.close_books-requires-clause-as_many
close_books-requires-clause-as_many g c κs within =
    omega (arith, ap (length {A = String Global}) c.deref.ensures.value, c.requires.groups)

pub close_books-requires-clause-none : goal.close_books-requires-clause-none
close_books-requires-clause-none g c κs within = c.requires.shelf.no_groups

pub close_books-requires-clause-room : goal.close_books-requires-clause-room
close_books-requires-clause-room g c κs within = omega (arith, c.requires.shelf.group_room, c.requires.groups)

pub close_books-requires-clause-places : goal.close_books-requires-clause-places
close_books-requires-clause-places g c κs within =
    subst (λ l. HavePlaces (length l) l (g.S.Store.has_place c.args.store.now)) (sym c.deref.ensures.value) c.requires.places.for_groups

pub close_books-requires-clause-distinct : goal.close_books-requires-clause-distinct
close_books-requires-clause-distinct g c κs within =
    subst (λ l. AllPairs (λ a b. string_bytes a ≢ string_bytes b) l) (sym c.deref.ensures.value) c.requires.shelf.groups_apart

-- ---- and then the cells

pub close_cells-requires-clause-as_many : goal.close_cells-requires-clause-as_many
close_cells-requires-clause-as_many g c κs within =
    omega (arith, ap (length {A = String Global}) c.deref-2.ensures.value, c.requires.tags)

pub close_cells-requires-clause-none : goal.close_cells-requires-clause-none
close_cells-requires-clause-none g c κs within = c.requires.shelf.no_tags

pub close_cells-requires-clause-room : goal.close_cells-requires-clause-room
close_cells-requires-clause-room g c κs within = omega (arith, c.requires.shelf.tag_room, c.requires.tags)

pub close_cells-requires-clause-apart : goal.close_cells-requires-clause-apart
close_cells-requires-clause-apart g c κs within =
    subst (λ l. AreApart (texts l)) (sym c.deref-2.ensures.value) c.requires.shelf.apart

pub close_cells-requires-clause-places : goal.close_cells-requires-clause-places
close_cells-requires-clause-places g c κs within =
    let was = g.S.Store.has_place c.args.store.now in
    let has = g.S.Store.has_place c.close_books.new.store in
    subst (λ l. HasPlaces has (texts l)) (sym c.deref-2.ensures.value)
    (All-weaker (λ n. IsTrue (was n)) (λ n. IsTrue (has n)) c.close_books.ensures.kept_places (texts c.args.shelf.tag_names.items)
    c.requires.places.for_tags)

-- ---- what is left

pub returns-clause-back : goal.returns-clause-back
returns-clause-back g c =
    let D = g.S.Dev.Disk in
    let cells = c.args.plant.cells.items in
    let books = c.args.plant.books.items in
    let old = g.S.Store.device_at c.args.store.now in
    let mid = g.S.Store.device_at c.close_books.new.store in
    let new = g.S.Store.device_at c.close_cells.new.store in
    all_back (branded D.device g.K.Begun.before) c.args.shelf cells books old mid new c.requires.shelf
    (omega (arith, c.requires.groups, c.args.plant.books.ok.0))
    (subst (λ l. AreBooksBack (branded D.device g.K.Begun.before) l books old mid) c.deref.ensures.value c.close_books.ensures.given)
    (subst (λ l. AreOtherNamesSame (length l) l old mid) c.deref.ensures.value c.close_books.ensures.others)
    (subst (λ l. AreGivenBack (branded D.device g.K.Begun.before) (texts l) cells mid new) c.deref-2.ensures.value c.close_cells.ensures.given_back)

pub returns-clause-devices : goal.returns-clause-devices
returns-clause-devices g c =
    subst (λ l. AreHistoriesAt g.K.Begun.before (g.S.Store.device_at c.close_cells.new.store) (texts l) c.close_cells.new.histories.items)
    c.deref-2.ensures.value c.close_cells.ensures.devices

pub returns-clause-counts : goal.returns-clause-counts
returns-clause-counts g c = λ small. all_counted (branded g.S.Dev.Disk.device g.K.Begun.before) c.args.plant.cells.items c.args.plant.books.items
    (g.S.Store.fault_count c.args.store.now) (g.S.Store.fault_count c.close_books.new.store)
    (g.S.Store.fault_count c.close_cells.new.store) small c.close_books.ensures.counted (c.close_books.ensures.later small)
    (c.close_books.ensures.rose small) (c.close_books.ensures.faultless small) c.close_cells.ensures.counts
