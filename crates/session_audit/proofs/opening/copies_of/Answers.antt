use Rattle.std.proofs.Common.{◌≡◌, ◌∙◌, ◌+◌, ◌++◌, [], ◌∷◌, ap, arith, length, sym, take, subst}
use Rattle.std.specs.List.{AllZip}
use Rattle.std.proofs.lemmas.Grind.{common_steps}
use Rattle.std.proofs.lemmas.List.{length_push}
use Rattle.session_audit.proofs.Each.{zip_more}
use Rattle.session_audit.proofs.opening.copies_of.Goals as goal

pub loop-one-preserved : goal.loop-one-preserved
loop-one-preserved g c =
    let i = c.loop-one.one-index in
    let xs = c.args.opened.now in
    let x = c.one-item.result in
    let old = c.loop-one.known.items in
    let new = c.in_ok-copy.field-0 in
    let grown : c.push.new.self.items ≡ old ++ new ∷ [] = grind (arith, common_steps) in
    record {
      count = ap length grown ∙ length_push old new ∙ ap (λ n. n + 1) c.loop-one.invariant.count;
      copied = subst (λ known. AllZip g.T.Opened.is_copied (take (i + 1) xs) known) (sym grown)
          (zip_more g.T.Opened.is_copied xs old i x new c.loop-one-test.true c.one-item.is c.loop-one.invariant.copied c.in_ok-copy.ensures);
    }
