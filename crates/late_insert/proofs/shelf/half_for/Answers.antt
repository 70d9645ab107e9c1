use Rattle.std.proofs.Common.{◌<◌, ◌≤◌, inl, inr, refl, sym, subst}
use Rattle.late_insert.proofs.shelf.half_for.Goals as goal

pub returns-then-start-t : goal.returns-then-start-t
returns-then-start-t c = λ d. inl (refl, subst (λ n. n ≤ c.args.t) (sym (c.start.ensures d)) c.if-start-t.true)

pub returns-else-start-t : goal.returns-else-start-t
returns-else-start-t c = λ d. inr (refl, subst (λ n. c.args.t < n) (sym (c.start.ensures d)) c.if-start-t.false)
