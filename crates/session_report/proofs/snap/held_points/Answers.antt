use Rattle.std.proofs.Common.{◌≡◌, ◌∙◌, ◌++◌, ◌∷◌, [], ap, sym, arith}
use Rattle.std.proofs.lemmas.Grind.{common_steps}
use Rattle.session_report.proofs.Filling.{none_of}
use Rattle.session_report.proofs.Held.{held_other, held_take}
use Rattle.session_report.proofs.snap.held_points.Goals.{in-Some+in_ok-push, in_default}
use Rattle.session_report.proofs.snap.held_points.Goals as goal

pub loop-entry-preserved : goal.loop-entry-preserved
loop-entry-preserved c =
    let tape = c.args.tape.now in
    let i = c.loop-entry.entry-index in
    let e = c.entry-item.result in
    let there = c.loop-entry-test.true in
    let before = c.loop-entry.invariant in
    elim c.match-held_after.branch [
      | in-Some+in_ok-push w ↦
          let p = w.in-Some.point in
          let more = held_take tape i e there c.entry-item.is p (sym c.held_after.ensures ∙ w.in-Some.is) in
          let grown : w.push.new.self.items ≡ c.loop-entry.points.items ++ p ∷ [] = grind (arith, common_steps) in
          ap (λ v. v.items) w.points-is ∙ grown ∙ ap (λ l. l ++ p ∷ []) before ∙ sym more
      | in_default w ↦
          let none = none_of c.held_after.result w.in_default.not-Some in
          ap (λ v. v.items) w.points-is ∙ before ∙ sym (held_other tape i e there c.entry-item.is (sym c.held_after.ensures ∙ none))
    ]
