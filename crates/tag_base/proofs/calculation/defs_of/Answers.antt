use Rattle.std.proofs.Common.{◌≡◌, ◌++◌, ◌∷◌, [], ◌∙◌, map, take, ap, sym, refl, subst, arith, ◌+◌}
use Rattle.std.proofs.lemmas.Grind.{common_steps}
use Rattle.std.proofs.lemmas.List.{map_push}
use Rattle.calc_parser.specs.{IsFormula, HasFormulaCause}
use Rattle.calc_parser.specs.Tree.{tree_of}
use Rattle.calc_check.specs.Group.{calculation}
use Rattle.calc_check.specs.{CalcDef}
use Rattle.tag_base.specs.{formula_text_of, Define}
use Rattle.tag_base.proofs.Calcs.{Define-more, first_refused}
use Rattle.tag_base.proofs.calculation.defs_of.Goals as goal

pub returns-in-Err-clause-refused : goal.returns-in-Err-clause-refused
returns-in-Err-clause-refused c _ =
    first_refused c.args.place c.args.texts.now c.loop-text.text-index c.text-item.result (map calculation c.loop-text.defs.items) c.in-Err.why
    c.refusal.result c.loop-text-test.true c.text-item.is c.loop-text.invariant.defined
    (subst (λ bytes. HasFormulaCause bytes c.in-Err.why) c.as_str.ensures.value c.in-Err.ensures.refused) c.refusal.ensures

pub loop-text-preserved : goal.loop-text-preserved
loop-text-preserved c =
    let def : CalcDef = record { name = c.text-item.result.name; expr = c.in-Ok.expr } in
    let grown : c.push.new.self.items ≡ c.loop-text.defs.items ++ def ∷ [] = grind (arith, common_steps) in
    let tree = subst (λ bytes. IsFormula bytes (tree_of c.in-Ok.expr)) c.as_str.ensures.value c.in-Ok.ensures.tree in
    record {
      defined = subst (Define (map formula_text_of (take (c.loop-text.text-index + 1) c.args.texts.now)))
          (sym (ap (map calculation) grown ∙ map_push calculation c.loop-text.defs.items def))
          (Define-more c.args.texts.now c.loop-text.text-index c.text-item.result (map calculation c.loop-text.defs.items) (calculation def)
          c.loop-text-test.true c.text-item.is c.loop-text.invariant.defined refl tree);
      as_many = grind (arith, common_steps);
    }
