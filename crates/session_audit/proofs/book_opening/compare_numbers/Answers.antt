use Rattle.std.proofs.Common.{◌≡◌, ◌∙◌, ◌∷◌, [], length, sym, arith, length-append}
use Rattle.session_audit.specs.BookOpenings.{items_of, windows_of}
use Rattle.calc_refresh.specs.{lists_of}
use Rattle.session_audit.proofs.PullNumbers.{take_same_all, take_same_more}
use Rattle.session_audit.proofs.book_opening.compare_numbers.Goals as goal

pub loop-place-preserved : goal.loop-place-preserved
loop-place-preserved c =
    let found = items_of c.args.found.now in
    let known = items_of c.args.known.now in
    let same : c.item_at-kept.result ≡ c.item_at-told.result = grind (arith, c.if-ne.false, c.if-ne.ensures, c.ne.ensures) in
    take_same_more c.loop-place.place found known c.loop-place.invariant
    (sym c.item_at-kept.ensures ∙ (same ∙ c.item_at-told.ensures))

pub returns-clause-same : goal.returns-clause-same
returns-clause-same c =
    let found = items_of c.args.found.now in
    let known = items_of c.args.known.now in
    take_same_all c.loop-place.place found known
    (omega (
      arith,
      c.loop-place-test.false,
      c.len-place-end.ensures,
      length-append c.args.known.now.versions.items (windows_of (lists_of c.args.known.now.rows.items) ∷ length (lists_of c.args.known.now.rows.items) ∷ []),
    ))
    c.loop-place.invariant
