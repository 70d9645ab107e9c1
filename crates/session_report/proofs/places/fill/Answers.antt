use Rattle.std.proofs.Common.{◌+◌, ◌∙◌, sym, subst, take}
use Rattle.calc_refresh.specs.{lists_of}
use Rattle.session_report.specs.{HasPlaceOfEach, ArePlacesFilled}
use Rattle.session_report.proofs.Filling.{filled_answer, filled_other, none_of}
use Rattle.session_report.proofs.places.fill.Goals.{in-Some, in_default}
use Rattle.session_report.proofs.places.fill.Goals as goal

pub loop-place-preserved : goal.loop-place-preserved
loop-place-preserved g c =
    let asker = g.E.Answers.asker in
    let readers = lists_of c.args.readers.now in
    let its = c.args.unit in
    let tape = c.args.tape.now in
    let i = c.loop-place.place in
    let e = c.index-tape-place.result in
    let old = lists_of c.args.table.now.items in
    let now = lists_of c.loop-place.table.items in
    let there = c.loop-place-test.true in
    let is = sym c.index-tape-place.is in
    let before = c.loop-place.invariant in
    elim c.match-asked_by.branch [
      | in-Some w ↦
          let filled = filled_answer asker readers its tape i e old now there is before.filled w.in-Some.by
          (lists_of w.keep.new.table.items) (sym c.asked_by.ensures ∙ w.in-Some.is) w.keep.ensures.kept in
          record {
            filled = subst (λ t. ArePlacesFilled asker readers its (take (i + 1) tape) old (lists_of t.items)) (sym w.table-is) filled;
            shape = subst (λ t. HasPlaceOfEach readers (lists_of t.items)) (sym w.table-is) w.keep.ensures.shape;
          }
      | in_default w ↦
          let none = none_of c.asked_by.result w.in_default.not-Some in
          let filled = filled_other asker readers its tape i e old now there is before.filled (sym c.asked_by.ensures ∙ none) in
          record {
            filled = subst (λ t. ArePlacesFilled asker readers its (take (i + 1) tape) old (lists_of t.items)) (sym w.table-is) filled;
            shape = subst (λ t. HasPlaceOfEach readers (lists_of t.items)) (sym w.table-is) before.shape;
          }
    ]
