use Rattle.std.proofs.Common.{◌∙◌, ◌^◌, ◌<◌, ◌∷◌, [], ap, arith, length, length-append, map, subst, sym}
use Rattle.std.proofs.lemmas.Result.{err_from_is_err_and}
use Rattle.group_book.specs.declared.refusal.LoadNo.TheVariants.{DeviceFault}
use Rattle.group_book.specs.{ToldBook}
use Rattle.branded_disk.specs.{branded}
use Rattle.plant_store.proofs.Counts.{counted_since}
use Rattle.plant_store.proofs.BookNames.{as_many, one_place}
use Rattle.plant_store.proofs.BookTurns.{IsSoFar, at_place, cause_at, group_unused, next_at, others_at, others_same, rest_at}
use Rattle.plant_store.proofs.book_opening.open_all.Goals as goal

pub loop-place-preserved : goal.loop-place-preserved
loop-place-preserved g c =
    let D = g.S.Dev.Disk in
    let groups = c.args.groups.now in
    let names = c.args.names.now in
    let before = c.loop-place.invariant in
    let i = c.loop-place.place in
    let at = at_place groups names i c.index-groups-place.result c.index-names-place.result c.as_str-name.result.now c.requires.names
    c.loop-place-test.true c.index-groups-place.is c.index-names-place.is c.as_str-name.ensures.value in
    let next = next_at (branded D.device g.K.Begun.before) groups names (map (λ r. r.now) c.args.records.now)
    (g.S.Store.device_at c.args.store.now) (g.S.Store.device_at c.loop-place.store) (g.S.Store.device_at c.open_book.new.store)
    c.loop-place.books.items i c.index-groups-place.result c.as_str-name.result.now c.index-names-place.result c.in_ok-book.book
    before.so_far c.requires.names c.requires.distinct before.count at c.in_ok-book.ensures.opened c.open_book.ensures.others in
    record {
      so_far = subst (λ l. IsSoFar (branded D.device g.K.Begun.before) groups names (map (λ r. r.now) c.args.records.now)
          (g.S.Store.device_at c.args.store.now) (g.S.Store.device_at c.open_book.new.store) l) (sym c.push_reserved.ensures.items) next;
      count = omega (
        arith,
        ap (length {A = ToldBook g.row.S-Dev.Denot}) c.push_reserved.ensures.items,
        length-append c.loop-place.books.items (c.in_ok-book.book ∷ []),
        before.count,
      );
      room = omega (arith, before.room, c.push_reserved.ensures.capacity);
      places = one_place names i c.index-names-place.result c.as_str-name.result.now _ _
          (omega (arith, c.loop-place-test.true, as_many groups names c.requires.names)) c.index-names-place.is
          c.as_str-name.ensures.value before.places c.open_book.ensures.places c.in_ok-book.ensures.place;
      kept_places = λ n was. c.open_book.ensures.places n (before.kept_places n was);
      faults = λ small.
          let so_far = before.faults small in
          (c.in_ok-book.ensures.counts (subst (λ n. n < 2 ^ 64) (sym so_far) small)).passed ∙ so_far;
    }

pub open_book-requires-clause-named : goal.open_book-requires-clause-named
open_book-requires-clause-named g c κs within =
    (at_place c.args.groups.now c.args.names.now c.loop-place.place c.index-groups-place.result c.index-names-place.result
    c.as_str-name.result.now c.requires.names c.loop-place-test.true c.index-groups-place.is c.index-names-place.is
    c.as_str-name.ensures.value).named

pub open_book-requires-clause-unused : goal.open_book-requires-clause-unused
open_book-requires-clause-unused g c κs within =
    let before = c.loop-place.invariant in
    group_unused g.K.Begun.before c.args.groups.now c.args.names.now (length c.loop-place.books.items) c.loop-place.place
    c.index-groups-place.result c.as_str-name.result.now (g.S.Store.device_at c.args.store.now) (g.S.Store.device_at c.loop-place.store)
    c.requires.names c.requires.distinct before.count
    (at_place c.args.groups.now c.args.names.now c.loop-place.place c.index-groups-place.result c.index-names-place.result
    c.as_str-name.result.now c.requires.names c.loop-place-test.true c.index-groups-place.is c.index-names-place.is
    c.as_str-name.ensures.value) before.so_far.others c.requires.unused

pub returns-in_err-book-clause-rest : goal.returns-in_err-book-clause-rest
returns-in_err-book-clause-rest g c =
    let groups = c.args.groups.now in
    let names = c.args.names.now in
    let before = c.loop-place.invariant in
    let at = at_place groups names c.loop-place.place c.index-groups-place.result c.index-names-place.result c.as_str-name.result.now
    c.requires.names c.loop-place-test.true c.index-groups-place.is c.index-names-place.is c.as_str-name.ensures.value in
    rest_at groups names _ (g.S.Store.device_at c.loop-place.store) _ (length c.loop-place.books.items) c.loop-place.place
    c.index-groups-place.result c.as_str-name.result.now c.index-names-place.result c.requires.names c.requires.distinct before.count at
    before.so_far.others c.in_err-book.ensures.same c.open_book.ensures.others

pub returns-in_err-book-clause-others : goal.returns-in_err-book-clause-others
returns-in_err-book-clause-others g c =
    let groups = c.args.groups.now in
    let names = c.args.names.now in
    let before = c.loop-place.invariant in
    let at = at_place groups names c.loop-place.place c.index-groups-place.result c.index-names-place.result c.as_str-name.result.now
    c.requires.names c.loop-place-test.true c.index-groups-place.is c.index-names-place.is c.as_str-name.ensures.value in
    others_at groups names _ (g.S.Store.device_at c.loop-place.store) _ (length c.loop-place.books.items) c.loop-place.place
    c.index-groups-place.result c.as_str-name.result.now c.index-names-place.result c.requires.names before.count at
    before.so_far.others c.open_book.ensures.others

pub returns-in_err-book-clause-cause : goal.returns-in_err-book-clause-cause
returns-in_err-book-clause-cause g c =
    let groups = c.args.groups.now in
    let names = c.args.names.now in
    let before = c.loop-place.invariant in
    let at = at_place groups names c.loop-place.place c.index-groups-place.result c.index-names-place.result c.as_str-name.result.now
    c.requires.names c.loop-place-test.true c.index-groups-place.is c.index-names-place.is c.as_str-name.ensures.value in
    let out = err_from_is_err_and c.from_residual.result c.from_residual.ensures.1 in
    rw (out.1, out.2)
    (cause_at groups names _ _ (g.S.Store.device_at c.loop-place.store) (length c.loop-place.books.items) c.loop-place.place
    c.index-groups-place.result c.as_str-name.result.now c.in_err-book.field-0.0 c.requires.names c.requires.distinct before.count at
    before.so_far.others c.in_err-book.ensures.cause)

pub returns-in_err-book-clause-counts : goal.returns-in_err-book-clause-counts
returns-in_err-book-clause-counts g c = λ small.
    let out = err_from_is_err_and c.from_residual.result c.from_residual.ensures.1 in
    rw (out.1, out.2)
    (counted_since c.in_err-book.field-0.0 DeviceFault (g.S.Store.fault_count c.args.store.now)
    (g.S.Store.fault_count c.loop-place.store) (g.S.Store.fault_count c.open_book.new.store) (c.loop-place.invariant.faults small) small
    c.in_err-book.ensures.counts)

pub returns-clause-others : goal.returns-clause-others
returns-clause-others g c =
    others_same c.args.groups.now c.args.names.now (length c.loop-place.books.items) _ _ c.requires.names
    (omega (arith, c.loop-place.invariant.count, c.loop-place.auto.place-end)) c.loop-place.invariant.so_far.others
