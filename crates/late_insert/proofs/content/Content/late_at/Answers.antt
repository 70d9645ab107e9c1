use Rattle.std.proofs.Common.{◌≡◌, Bool, true, false, pos, cond, Option, Some, None, IsSome, IsTrue, refl}
use Rattle.std.specs.Prelude.{◌↔◌}
use Rattle.trend_model.specs.{is_late_record}
use Rattle.late_insert.proofs.Nearest.{late_there, late_nowhere}
use Rattle.late_insert.proofs.content.Content.late_at.Goals as goal

-- what a choice of a value or none says
some_by : {X : Type 0} (b r : Bool) (x : X) (o : Option X) → r ≡ b → o ≡ cond b (Some x) None
    → IsTrue r ↔ IsSome o
some_by true r x o is seen = (λ h. rw seen refl, λ h. rw is refl)
some_by false r x o is seen = (λ h. absurd cc, λ h. absurd cc)

pub returns-in-None : goal.returns-in-None
returns-in-None c =
    let none = late_nowhere c.args.self.now.records c.args.t c.gap.result c.gap.ensures.rising
    c.gap.ensures.bound c.gap.ensures.before
    c.gap.ensures.after c.in-None.ensures.none in
    some_by false false (pos 0) _ refl none

pub returns-in-Some : goal.returns-in-Some
returns-in-Some c =
    some_by (is_late_record c.in-Some.rec.kind) _ c.in-Some.rec.point.v _ c.is_late.ensures
    (late_there c.args.self.now.records c.args.t c.gap.result c.gap.ensures.rising c.gap.ensures.bound
    c.gap.ensures.before
    c.gap.ensures.after c.in-Some.rec c.in-Some.ensures.there)
