use Rattle.std.proofs.Common.{◌≡◌, ◌∷◌, [], ℕ, ◌≤◌, All, List, length, get_or, sym, ap, subst, arith, length-append}
use Rattle.std.proofs.lemmas.List.{map-append}
use Rattle.std.proofs.lemmas.List.Elements.{All-push}
use Rattle.std.proofs.lemmas.Result.{err_from_is_err_and}
use Rattle.calc_refresh.specs.{IsCopy}
use Rattle.tag_cell.specs.{Pulled}
use Rattle.group_book.specs.{GivesNone, pulled_records}
use Rattle.group_book.proofs.Causes.{goes_more, none_more, one_refused}
use Rattle.group_book.proofs.refresh.pull_all.Goals as goal

pub returns-in_err-one-clause-cause : goal.returns-in_err-one-clause-cause
returns-in_err-one-clause-cause g c = grind (arith, err_from_is_err_and, one_refused)

pub loop-i-preserved : goal.loop-i-preserved
loop-i-preserved g c =
    let ps = c.loop-i.pulled.items in
    let one = c.in_ok-one.one in
    let inv = c.loop-i.invariant in
    let pushed = c.in-Ok.ensures.items in
    record {
      len = omega (arith, ap length pushed, length-append ps (one ∷ []));
      copied = subst (λ (l : List Pulled). All IsCopy (pulled_records l)) (sym pushed)
          (subst (All IsCopy) (sym (map-append (λ p. p.recs.items) ps (one ∷ [])))
          (All-push IsCopy (pulled_records ps) one.recs.items inv.copied c.in_ok-one.ensures.copied));
      goes_on =
          grind (arith, goes_more);
      none = subst (λ (l : List Pulled). GivesNone c.args.tags.now (length c.args.cells.now) (pulled_records l)) (sym pushed)
          (none_more c.args.tags.now (length c.args.cells.now) ps one inv.none
          (subst (λ (n : ℕ). length c.args.cells.now ≤ get_or c.args.tags.now n 0 → one.recs.items ≡ []) (sym inv.len) c.in_ok-one.ensures.none));
    }
