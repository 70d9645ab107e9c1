use Rattle.std.proofs.Common.{◌≡◌, [], ◌∷◌, ◌++◌, fold, take, subst, sym, ap, ◌∙◌, arith}
use Rattle.trend_model.specs.{IsContentOf, placed}
use Rattle.trend_model.proofs.ContentList.{content_more}
use Rattle.late_insert.specs.{ArePagesFilled}
use Rattle.late_insert.proofs.content.Content.put.Goals as goal

pub returns-clause-content : goal.returns-clause-content
returns-clause-content c = λ rs is.
    let one : c.put_front.result ≡ 1 = omega (arith, c.put_front.ensures.some, c.put_front.ensures.within) in
    subst (IsContentOf (rs ++ c.args.rec ∷ []))
    (sym (c.put_front.ensures.records ∙ ap (λ n. fold (λ l r. placed r l) c.args.self.now.records
    (take n (c.args.rec ∷ []))) one))
    (content_more rs c.args.self.now.records c.args.rec is)

pub returns-clause-behind : goal.returns-clause-behind
returns-clause-behind c = λ before.
    let one : c.put_front.result ≡ 1 = omega (arith, c.put_front.ensures.some, c.put_front.ensures.within) in
    subst (λ n. ArePagesFilled c.args.self.now.pages n c.put_front.new.self.pages) one
    (c.put_front.ensures.behind c.args.rec before)

pub returns-clause-among : goal.returns-clause-among
returns-clause-among c = c.put_front.ensures.among c.args.rec
