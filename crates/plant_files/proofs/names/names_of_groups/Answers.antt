use Rattle.std.proofs.Common.{◌≡◌, ◌<◌, ◌^◌, ◌+◌, ◌∙◌, ◌++◌, ◌∷◌, [], ap, sym, subst, take, length, vec_len, arith}
use Rattle.std.proofs.lemmas.Grind.{common_steps}
use Rattle.std.proofs.lemmas.List.{take_more}
use Rattle.tag_base.specs.{GroupDef}
use Rattle.value_rows.specs.{GroupNames}
use Rattle.plant_files.specs.{AreNamed}
use Rattle.plant_files.proofs.Named.{AreNamed-push}
use Rattle.plant_files.proofs.names.names_of_groups.Goals as goal

pub loop-group-preserved : goal.loop-group-preserved
loop-group-preserved c =
    let groups = c.args.groups.now in
    let i = c.loop-group.group-index in
    let group = c.group-item.result in
    let names = c.loop-group.names.items in
    let named = c.in_ok-named.named in
    let IsFew : GroupNames → Type 0 = λ n. vec_len n.calcs < 2 ^ 32 in
    let HasFew : GroupDef → Type 0 = λ g. length g.calcs.calcs < 2 ^ 32 in
    let few : HasFew group = subst HasFew (sym c.group-item.is) (c.requires i group c.loop-group-test.true) in
    let grown : c.push.new.self.items ≡ names ++ named ∷ [] = grind (arith, common_steps) in
    let more : take (i + 1) groups ≡ take i groups ++ group ∷ [] =
    take_more groups i group c.loop-group-test.true ∙ ap (λ g. take i groups ++ g ∷ []) (sym c.group-item.is) in
    record {
      named = subst (AreNamed (take (i + 1) groups)) (sym grown)
          (subst (λ l. AreNamed l (names ++ named ∷ [])) (sym more)
          (AreNamed-push (take i groups) names group named c.loop-group.invariant.named c.in_ok-named.ensures.named));
      as_many = grind (arith, common_steps);
      few_calcs = grind arith;
    }
