use Rattle.std.proofs.Common.{◌≡◌, ◌∙◌, ◌≤◌, ◌∷◌, [], ap, arith, length, length-append, subst, sym}
use Rattle.std.specs.Vec.Iter.{into_iter_items, into_iter_len}
use Rattle.std.proofs.lemmas.Grind.{common_steps}
use Rattle.group_book.specs.{GroupHistory}
use Rattle.branded_disk.specs.{branded}
use Rattle.plant_store.specs.CellClosings.{HasRisen}
use Rattle.plant_store.specs.BookEndings.{counts_after}
use Rattle.plant_store.proofs.BookLoops.{begun, has_place, one_more}
use Rattle.plant_store.proofs.BookReturns.{counted_all, counts_later, counts_none, counts_rose, one_told}
use Rattle.plant_store.proofs.book_closing.close_books.Goals as goal
use Rattle.plant_store.proofs.book_closing.close_books.Goals.{After-destroy_empty}

pub loop-book-init : goal.loop-book-init
loop-book-init g c =
    let none = ap (length {A = GroupHistory}) c.requires.none in
    record {
      going = begun c.into_iter-rest.ensures.rest (omega (arith, c.into_iter-rest.ensures.len, c.args.books.ok)) c.requires.places
          (omega (arith, c.requires.as_many, c.args.books.ok));
      room = omega (arith, none, c.into_iter-rest.ensures.len, c.requires.room);
      told = λ i b h below. absurd (omega (arith, none, below));
      as_many = none;
    }

pub close_book-history-requires-clause-place : goal.close_book-history-requires-clause-place
close_book-history-requires-clause-place g c κs within =
    has_place c.args.names.now (g.S.Store.has_place c.loop-book.store)
    (omega (arith, c.loop-book.invariant.going.taken, c.in-Some.ensures.len)) c.index-names-place.is c.as_str.ensures.value
    c.loop-book.invariant.going.places

pub loop-book-preserved : goal.loop-book-preserved
loop-book-preserved g c =
    let D = g.S.Dev.Disk in
    let before = c.loop-book.invariant in
    let history = c.close_book-history.result in
    record {
      going = one_more before.going c.requires.distinct
          (omega (arith, c.requires.as_many, before.going.taken, c.in-Some.ensures.len, c.args.books.ok))
          c.in-Some.ensures.items (omega (arith, c.in-Some.ensures.len)) c.index-names-place.is c.as_str.ensures.value
          c.close_book-history.ensures.given c.close_book-history.ensures.others c.close_book-history.ensures.places
          c.close_book-history.ensures.counted;
      room = omega (arith, before.room, c.in-Some.ensures.len, c.push_reserved.ensures.capacity, c.push_reserved.ensures.len);
      told = one_told (branded D.device g.K.Begun.before) c.args.books.items _ c.loop-book.histories.items _ c.loop-book.place c.in-Some.book
          history before.told before.as_many (before.going.rest ∙ c.in-Some.ensures.items) c.close_book-history.ensures.history
          c.push_reserved.ensures.items;
      as_many = omega (
        arith,
        ap (length {A = GroupHistory}) c.push_reserved.ensures.items,
        length-append c.loop-book.histories.items (history ∷ []),
        before.as_many,
      );
    }

-- ---- all books are back

none_left : (g : _) (c : After-destroy_empty g) → into_iter_len c.loop-book.rest ≡ 0
none_left g c = grind (arith, common_steps)

pub returns-clause-given : goal.returns-clause-given
returns-clause-given g c = λ i b s below.
    c.loop-book.invariant.going.back.given i b s
    (omega (arith, below, none_left g (goal.at.returns-clause-given g c).After-destroy_empty, c.loop-book.invariant.going.taken))

-- the faults of all devices are added
added : (g : _) (c : After-destroy_empty g) → g.S.Store.fault_count c.loop-book.store
    ≡ counts_after (branded g.S.Dev.Disk.device g.K.Begun.before) c.args.books.items (g.S.Store.fault_count c.args.store.now)
added g c = counted_all (branded g.S.Dev.Disk.device g.K.Begun.before) c.args.books.items (into_iter_items c.loop-book.rest)
    (g.S.Store.fault_count c.args.store.now) (g.S.Store.fault_count c.loop-book.store) _ c.in_default.ensures.variant
    c.loop-book.invariant.going.count c.loop-book.invariant.going.counted

pub returns-clause-later : goal.returns-clause-later
returns-clause-later g c = λ small.
    let first = g.S.Store.fault_count c.args.store.now in
    subst (λ n. first ≤ n) (sym (added g (goal.at.returns-clause-later g c).After-destroy_empty))
    (counts_later (branded g.S.Dev.Disk.device g.K.Begun.before) c.args.books.items first small)

pub returns-clause-rose : goal.returns-clause-rose
returns-clause-rose g c = λ small i b below some.
    let first = g.S.Store.fault_count c.args.store.now in
    subst (HasRisen first) (sym (added g (goal.at.returns-clause-rose g c).After-destroy_empty))
    (counts_rose (branded g.S.Dev.Disk.device g.K.Begun.before) c.args.books.items first i b small below some)

pub returns-clause-faultless : goal.returns-clause-faultless
returns-clause-faultless g c = λ small none.
    added g (goal.at.returns-clause-faultless g c).After-destroy_empty
    ∙ counts_none (branded g.S.Dev.Disk.device g.K.Begun.before) c.args.books.items (g.S.Store.fault_count c.args.store.now) small none

pub returns-clause-others : goal.returns-clause-others
returns-clause-others g c = λ n other. c.loop-book.invariant.going.back.others n
    (λ i s below. other i s (omega (arith, below, c.loop-book.invariant.as_many, c.requires.as_many, c.loop-book.invariant.going.taken)))
