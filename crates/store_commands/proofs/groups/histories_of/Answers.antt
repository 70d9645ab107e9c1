use Rattle.std.proofs.Common.{◌<◌, ◌^◌, ◌∙◌, All, ap, arith, get_or, length, map, subst, sym}
use Rattle.std.specs.Prelude.{String}
use Rattle.std.specs.declared.alloc.Global.{Global}
use Rattle.std.proofs.lemmas.Result.{IfErr-weaker, err_from_is_err_and}
use Rattle.calc_refresh.specs.{IsCopy}
use Rattle.branded_disk.specs.{branded, untold}
use Rattle.plant_store.specs.BookEndings.{AreGivenBack}
use Rattle.plant_store.specs.Groups.{AreBooksOpened, AreNamesOf}
use Rattle.plant_store.specs.BookRefusals.{IsRefusal}
use Rattle.plant_store.specs.{HavePlaces}
use Rattle.plant_store.proofs.BookNames.{as_many, names_differ}
use Rattle.plant_store.proofs.BookTurns.{others_same, still}
use Rattle.store_commands.specs.GroupRows.{OfOpening, tag_records}
use Rattle.store_commands.specs.{AreRefreshedOnce, IsOverSome}
use Rattle.store_commands.proofs.Books.{all_back, all_told, counts_same, cut_books, all_synced, err_and, none_counted, ok_always, ok_and, over_some}
use Rattle.store_commands.proofs.Commands.{rows_no_fault}
use Rattle.store_commands.proofs.groups.histories_of.Goals as goal

pub returns-in_default-clause-same : goal.returns-in_default-clause-same
returns-in_default-clause-same g c = λ k d below. still (get_or c.args.groups.now k d) _

pub returns-in_default-records_of-clause-same : goal.returns-in_default-records_of-clause-same
returns-in_default-records_of-clause-same g c = λ k d below. still (get_or c.args.groups.now k d) _

pub returns-in_default-with_capacity-clause-same : goal.returns-in_default-with_capacity-clause-same
returns-in_default-with_capacity-clause-same g c = λ k d below. still (get_or c.args.groups.now k d) _

pub open_books-requires-clause-unused : goal.open_books-requires-clause-unused
open_books-requires-clause-unused g c κs within = λ k d below. tt

pub returns-in_err-books-clause-refused : goal.returns-in_err-books-clause-refused
returns-in_err-books-clause-refused g c =
    let lists = ap (map (λ r. r.now)) c.deref-2.ensures.value ∙ c.in-Ok-records_of.ensures.records in
    let p = err_from_is_err_and c.from_residual.result c.from_residual.ensures.1 in
    rw (p.1, p.2) (OfOpening (subst (λ l. IsRefusal c.args.groups.now l (g.S.Store.device_at c.args.store.now)
    (g.S.Store.fault_count c.args.store.now) (g.S.Store.fault_count c.open_books.new.store) c.in_err-books.field-0.0) lists
    c.in_err-books.ensures.refused))

pub refresh_all-refreshed-requires-clause-copied : goal.refresh_all-refreshed-requires-clause-copied
refresh_all-refreshed-requires-clause-copied g c =
    subst (λ l. All (λ r. IsCopy r.now) l) (sym c.deref-3.ensures.value) c.in-Ok-records_of.ensures.copied

pub refresh_all-refreshed-requires-clause-cut : goal.refresh_all-refreshed-requires-clause-cut
refresh_all-refreshed-requires-clause-cut g c =
    let D = g.S.Dev.Disk in
    let old = g.S.Store.device_at c.args.store.now in
    let same = ap (map (λ r. r.now)) (c.deref-2.ensures.value ∙ sym c.deref-3.ensures.value) in
    cut_books (branded D.device untold) c.args.groups.now (map (λ r. r.now) c.deref-3.result.now) old
    c.in_ok-books.books.items c.in_ok-books.ensures.as_many
    (subst (λ l. AreBooksOpened (branded D.device untold) c.args.groups.now l old c.in_ok-books.books.items) same
    c.in_ok-books.ensures.opened)

pub close_books-requires-clause-as_many : goal.close_books-requires-clause-as_many
close_books-requires-clause-as_many g c κs within =
    omega (
      arith,
      ap (length {A = String Global}) c.deref-4.ensures.value,
      as_many c.args.groups.now c.in-Ok.names.items c.in-Ok.ensures.names,
      c.in_ok-books.ensures.as_many,
      c.refresh_all-refreshed.ensures.same.as_many,
      c.refresh_all-refreshed.new.books.ok.0,
    )

pub close_books-requires-clause-places : goal.close_books-requires-clause-places
close_books-requires-clause-places g c κs within =
    let names = c.in-Ok.names.items in
    let has_place = g.S.Store.has_place c.open_books.new.store in
    subst (λ l. HavePlaces (length l) l has_place) (sym c.deref-4.ensures.value)
    (subst (λ n. HavePlaces n names has_place) (sym (as_many c.args.groups.now names c.in-Ok.ensures.names))
    (subst (λ l. HavePlaces (length c.args.groups.now) l has_place) c.deref.ensures.value c.in_ok-books.ensures.places))

pub close_books-requires-clause-distinct : goal.close_books-requires-clause-distinct
close_books-requires-clause-distinct g c κs within =
    names_differ c.args.groups.now c.deref-4.result.now
    (subst (AreNamesOf c.args.groups.now) (sym c.deref-4.ensures.value) c.in-Ok.ensures.names) c.requires.distinct

pub returns-clause-told : goal.returns-clause-told
returns-clause-told g c =
    let D = g.S.Dev.Disk in
    let groups = c.args.groups.now in
    let old = g.S.Store.device_at c.args.store.now in
    let books = c.in_ok-books.books.items in
    let closed = c.refresh_all-refreshed.new.books.items in
    let lists = ap (map (λ r. r.now)) c.deref-2.ensures.value ∙ c.in-Ok-records_of.ensures.records in
    let lists_then = ap (map (λ r. r.now)) c.deref-3.ensures.value ∙ c.in-Ok-records_of.ensures.records in
    ok_and _ c.refresh_all-refreshed.result c.close_books.new.histories c.and.result c.and.ensures (λ once.
    all_told (branded D.device untold) groups (tag_records c.args.cores.now) old books closed c.close_books.new.histories.items
    c.in_ok-books.ensures.as_many
    (subst (λ l. AreBooksOpened (branded D.device untold) groups l old books) lists c.in_ok-books.ensures.opened)
    c.refresh_all-refreshed.ensures.same (subst (λ l. AreRefreshedOnce l books closed) lists_then once) c.close_books.ensures.closed)
    c.refresh_all-refreshed.ensures.refreshed

pub returns-clause-refused : goal.returns-clause-refused
returns-clause-refused g c =
    let D = g.S.Dev.Disk in
    let groups = c.args.groups.now in
    let old = g.S.Store.device_at c.args.store.now in
    let books = c.in_ok-books.books.items in
    let lists = ap (map (λ r. r.now)) c.deref-2.ensures.value ∙ c.in-Ok-records_of.ensures.records in
    let lists_then = ap (map (λ r. r.now)) c.deref-3.ensures.value ∙ c.in-Ok-records_of.ensures.records in
    err_and _ _ c.refresh_all-refreshed.result c.close_books.new.histories c.and.result c.and.ensures (λ why over.
    over_some (branded D.device untold) groups (tag_records c.args.cores.now) old (g.S.Store.device_at c.close_books.new.store) books _ _
    why c.in_ok-books.ensures.as_many
    (subst (λ l. AreBooksOpened (branded D.device untold) groups l old books) lists c.in_ok-books.ensures.opened)
    (all_synced (branded D.device untold) groups c.in-Ok.names.items (map (λ r. r.now) c.deref-2.result.now) old
    (g.S.Store.device_at c.open_books.new.store) (g.S.Store.device_at c.close_books.new.store) books c.refresh_all-refreshed.new.books.items
    c.in-Ok.ensures.names c.in_ok-books.ensures.as_many c.in_ok-books.ensures.opened c.refresh_all-refreshed.ensures.same
    (subst (λ l. AreGivenBack (branded D.device untold) l c.refresh_all-refreshed.new.books.items (g.S.Store.device_at c.open_books.new.store)
    (g.S.Store.device_at c.close_books.new.store)) c.deref-4.ensures.value c.close_books.ensures.given))
    (subst (λ l. IsOverSome l books why) lists_then over)) c.refresh_all-refreshed.ensures.refused

pub returns-in_err-books-clause-no_file_fault : goal.returns-in_err-books-clause-no_file_fault
returns-in_err-books-clause-no_file_fault g c =
    IfErr-weaker c.from_residual.result _ _ (rows_no_fault _ _ _ _ _ _) (returns-in_err-books-clause-refused g c)

pub returns-clause-no_file_fault : goal.returns-clause-no_file_fault
returns-clause-no_file_fault g c = IfErr-weaker c.and.result _ _ (rows_no_fault _ _ _ _ _ _) (returns-clause-refused g c)

pub returns-clause-same : goal.returns-clause-same
returns-clause-same g c =
    let D = g.S.Dev.Disk in
    let new = g.S.Store.device_at c.close_books.new.store in
    let mid = g.S.Store.device_at c.open_books.new.store in
    let closed = c.refresh_all-refreshed.new.books.items in
    all_back (branded D.device untold) c.args.groups.now c.in-Ok.names.items (map (λ r. r.now) c.deref-2.result.now)
    (g.S.Store.device_at c.args.store.now) mid new c.in_ok-books.books.items closed c.in-Ok.ensures.names
    c.in_ok-books.ensures.as_many c.in_ok-books.ensures.opened c.refresh_all-refreshed.ensures.same
    (subst (λ l. AreGivenBack (branded D.device untold) l closed mid new) c.deref-4.ensures.value c.close_books.ensures.given)

pub returns-clause-others : goal.returns-clause-others
returns-clause-others g c = λ n none.
    let new = g.S.Store.device_at c.close_books.new.store in
    let mid = g.S.Store.device_at c.open_books.new.store in
    let are = subst (AreNamesOf c.args.groups.now) (sym c.deref-4.ensures.value) c.in-Ok.ensures.names in
    others_same c.args.groups.now c.deref-4.result.now (length c.deref-4.result.now) mid new are
    (omega (arith, as_many c.args.groups.now c.deref-4.result.now are)) c.close_books.ensures.others n none
    ∙ c.open_books.ensures.others n none

pub returns-clause-counts : goal.returns-clause-counts
returns-clause-counts g c = λ small.
    let D = g.S.Dev.Disk in
    let first = c.in_ok-books.ensures.counts small in
    counts_same c.and.result (c.close_books.ensures.faultless (subst (λ n. n < 2 ^ 64) (sym first) small)
    (none_counted (branded D.device untold) c.args.groups.now (map (λ r. r.now) c.deref-2.result.now)
    (g.S.Store.device_at c.args.store.now) c.in_ok-books.books.items c.refresh_all-refreshed.new.books.items
    c.in_ok-books.ensures.as_many c.in_ok-books.ensures.opened c.refresh_all-refreshed.ensures.same)
    ∙ first)

pub returns-clause-synced : goal.returns-clause-synced
returns-clause-synced g c =
    let D = g.S.Dev.Disk in
    let new = g.S.Store.device_at c.close_books.new.store in
    let mid = g.S.Store.device_at c.open_books.new.store in
    let closed = c.refresh_all-refreshed.new.books.items in
    ok_always c.and.result
    (all_synced (branded D.device untold) c.args.groups.now c.in-Ok.names.items (map (λ r. r.now) c.deref-2.result.now)
    (g.S.Store.device_at c.args.store.now) mid new c.in_ok-books.books.items closed c.in-Ok.ensures.names
    c.in_ok-books.ensures.as_many c.in_ok-books.ensures.opened c.refresh_all-refreshed.ensures.same
    (subst (λ l. AreGivenBack (branded D.device untold) l closed mid new) c.deref-4.ensures.value c.close_books.ensures.given))
