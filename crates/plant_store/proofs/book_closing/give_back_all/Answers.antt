use Rattle.std.proofs.Common.{◌≡◌, arith}
use Rattle.std.specs.Vec.Iter.{into_iter_len}
use Rattle.std.proofs.lemmas.Grind.{common_steps}
use Rattle.plant_store.proofs.BookLoops.{begun, has_place, one_more}
use Rattle.plant_store.proofs.book_closing.give_back_all.Goals as goal
use Rattle.plant_store.proofs.book_closing.give_back_all.Goals.{After-destroy_empty}

pub loop-book-init : goal.loop-book-init
loop-book-init g c = record {
  going = begun c.into_iter-rest.ensures.rest (omega (arith, c.into_iter-rest.ensures.len, c.args.books.ok)) c.requires.places
      (omega (arith, c.args.books.ok));
}

pub close_book-requires-clause-place : goal.close_book-requires-clause-place
close_book-requires-clause-place g c κs within =
    has_place c.args.names.now (g.S.Store.has_place c.loop-book.store)
    (omega (arith, c.loop-book.invariant.going.taken, c.in-Some.ensures.len)) c.index-names-place.is c.as_str.ensures.value
    c.loop-book.invariant.going.places

pub loop-book-preserved : goal.loop-book-preserved
loop-book-preserved g c = record {
  going = one_more c.loop-book.invariant.going c.requires.distinct
      (omega (arith, c.requires.named, c.loop-book.invariant.going.taken, c.in-Some.ensures.len, c.args.books.ok))
      c.in-Some.ensures.items (omega (arith, c.in-Some.ensures.len)) c.index-names-place.is c.as_str.ensures.value
      c.close_book.ensures.given c.close_book.ensures.others c.close_book.ensures.places c.close_book.ensures.counted;
}

none_left : (g : _) (c : After-destroy_empty g) → into_iter_len c.loop-book.rest ≡ 0
none_left g c = grind (arith, common_steps)

pub returns-clause-given : goal.returns-clause-given
returns-clause-given g c = λ i b s below.
    c.loop-book.invariant.going.back.given i b s
    (omega (arith, below, none_left g (goal.at.returns-clause-given g c).After-destroy_empty, c.loop-book.invariant.going.taken))

pub returns-clause-others : goal.returns-clause-others
returns-clause-others g c = λ n other. c.loop-book.invariant.going.back.others n
    (λ i s below. other i s (omega (arith, below, c.args.books.ok, c.loop-book.invariant.going.taken)))
