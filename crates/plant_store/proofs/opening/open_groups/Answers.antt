use Rattle.std.proofs.Common.{◌≡◌, ◌∙◌, All, List, ap, get_or, length, map, refl, subst, sym}
use Rattle.std.specs.Prelude.{IfErr, IfOk, OnErr, OnOk}
use Rattle.std.proofs.lemmas.List.{length-map}
use Rattle.trend_num.specs.{Rec}
use Rattle.calc_refresh.specs.{IsCopy}
use Rattle.tag_base.specs.{IsSoundGroup}
use Rattle.branded_disk.specs.{branded}
use Rattle.plant_store.specs.Groups as group
use Rattle.plant_store.specs.BookRefusals as groups
use Rattle.plant_store.specs.BookRefusals.{OfMemory}
use Rattle.plant_store.specs.{HavePlaces, cell_records_in}
use Rattle.plant_store.proofs.BookTurns.{still}
use Rattle.plant_store.proofs.opening.open_groups.Goals as goal

pub returns-in_default-clause-refused : goal.returns-in_default-clause-refused
returns-in_default-clause-refused g c = OfMemory refl

pub returns-in_default-clause-any_moment : goal.returns-in_default-clause-any_moment
returns-in_default-clause-any_moment g c = λ k d below. still (get_or c.args.base.now.groups.items k d) _

pub open_books-requires-clause-unused : goal.open_books-requires-clause-unused
open_books-requires-clause-unused g c κs within =
    subst (λ l. group.AreGroupsUnused g.K.Begun.before l (g.S.Store.device_at c.args.store.now)) (sym c.deref.ensures.value) c.requires.unused

pub open_books-requires-clause-sound : goal.open_books-requires-clause-sound
open_books-requires-clause-sound g c κs within =
    let lists = ap (map (λ r. r.now)) c.deref-2.ensures.value ∙ c.in-Ok.ensures.records in
    let many : length c.args.cells.now ≡ length c.deref-2.result.now =
    sym (length-map c.args.cells.now (λ cell. cell.state.records)) ∙ sym (ap (length {A = List Rec}) lists)
    ∙ length-map c.deref-2.result.now (λ r. r.now) in
    subst (λ l. All (IsSoundGroup (length c.deref-2.result.now)) l) (sym c.deref.ensures.value)
    (subst (λ n. All (IsSoundGroup n) c.args.base.now.groups.items) many c.requires.sound)

pub open_books-requires-clause-copied : goal.open_books-requires-clause-copied
open_books-requires-clause-copied g c κs within =
    subst (λ l. All (λ r. IsCopy r.now) l) (sym c.deref-2.ensures.value) c.in-Ok.ensures.copied

pub returns-clause-opened : goal.returns-clause-opened
returns-clause-opened g c =
    let D = g.S.Dev.Disk in
    let old = g.S.Store.device_at c.args.store.now in
    let lists = ap (map (λ r. r.now)) c.deref-2.ensures.value ∙ c.in-Ok.ensures.records in
    subst (λ gs. IfOk c.open_books.result (λ books. group.AreBooksOpened (branded D.device g.K.Begun.before) gs (cell_records_in c.args.cells.now) old
    books.items)) c.deref.ensures.value
    (subst (λ l. IfOk c.open_books.result (λ books. group.AreBooksOpened (branded D.device g.K.Begun.before) c.deref.result.now l old
    books.items)) lists c.open_books.ensures.opened)

pub returns-clause-as_many : goal.returns-clause-as_many
returns-clause-as_many g c =
    subst (λ l. IfOk c.open_books.result (λ books. length books.items ≡ length l)) c.deref.ensures.value c.open_books.ensures.as_many

pub returns-clause-places : goal.returns-clause-places
returns-clause-places g c =
    subst (λ l. OnOk c.open_books.result (HavePlaces (length l) c.args.names.now (g.S.Store.has_place c.open_books.new.store)))
    c.deref.ensures.value c.open_books.ensures.places

pub returns-clause-refused : goal.returns-clause-refused
returns-clause-refused g c =
    let old = g.S.Store.device_at c.args.store.now in
    let before = g.S.Store.fault_count c.args.store.now in
    let now = g.S.Store.fault_count c.open_books.new.store in
    let lists = ap (map (λ r. r.now)) c.deref-2.ensures.value ∙ c.in-Ok.ensures.records in
    subst (λ gs. IfErr c.open_books.result (groups.IsRefusal gs (cell_records_in c.args.cells.now) old before now)) c.deref.ensures.value
    (subst (λ l. IfErr c.open_books.result (groups.IsRefusal c.deref.result.now l old before now)) lists c.open_books.ensures.refused)

pub returns-clause-any_moment : goal.returns-clause-any_moment
returns-clause-any_moment g c =
    let old = g.S.Store.device_at c.args.store.now in
    let new = g.S.Store.device_at c.open_books.new.store in
    subst (λ l. OnErr c.open_books.result (group.AllStaySame l old new)) c.deref.ensures.value c.open_books.ensures.any_moment

pub returns-clause-others : goal.returns-clause-others
returns-clause-others g c =
    let old = g.S.Store.device_at c.args.store.now in
    let new = g.S.Store.device_at c.open_books.new.store in
    subst (λ l. group.AreOtherGroupsSame l old new) c.deref.ensures.value c.open_books.ensures.others
