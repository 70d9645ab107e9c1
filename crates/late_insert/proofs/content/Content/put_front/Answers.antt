use Rattle.std.proofs.Common.{get_or, subst, ap, inl, refl}
use Rattle.std.proofs.lemmas.List.{get_or_default}
use Rattle.late_insert.specs.{lengths_of, ArePagesFilled}
use Rattle.trend_model.proofs.Placing.{time, AllBefore}
use Rattle.late_insert.proofs.Finding.{no_rec}
use Rattle.late_insert.proofs.Growing.{one_behind}
use Rattle.late_insert.proofs.content.Content.put_front.Goals as goal

pub returns-then-is_open_before-clause-behind : goal.returns-then-is_open_before-clause-behind
returns-then-is_open_before-clause-behind c = λ d before.
    let pool = c.self.inside.pool in
    let pages = c.self.inside.pages.items in
    subst (λ ns. ArePagesFilled ns 1 (lengths_of c.put_behind.new.pool c.put_behind.new.pages.items))
    (ap (λ s. s.pages) c.self.view_is)
    (one_behind pool pool c.put_behind.new.pool pages pages c.put_behind.new.pages.items (get_or c.args.recs.now 0 no_rec)
    1 refl (inl refl) c.put_behind.ensures.records c.put_behind.ensures.grown c.put_behind.ensures.lengths
    c.self.invariant.paged (c.is_open_before.ensures.before c.if-is_open_before.true)
    (c.is_open_before.ensures.room c.if-is_open_before.true))

pub returns-then-is_open_before-clause-among : goal.returns-then-is_open_before-clause-among
returns-then-is_open_before-clause-among c = λ d late.
    let before = c.is_open_before.ensures.before c.if-is_open_before.true in
    let seen = subst (λ l. AllBefore l (time (get_or c.args.recs.now 0 no_rec))) (ap (λ s. s.records) c.self.view_is)
    before in
    absurd (late (subst (λ r. AllBefore c.args.self.now.records (time r))
    (get_or_default c.args.recs.now 0 no_rec d c.requires.some) seen))
