use Rattle.std.proofs.Common.{rules, subst}
use Rattle.std.proofs.lemmas.List.Elements.{All-more}
use Rattle.std.proofs.lemmas.Grind.{common_steps}
use Rattle.trend_num.specs.{IsName}
use Rattle.tag_base.specs.{GroupDef}
use Rattle.plant_store.proofs.group_parts.group_device_names.Goals as goal

pub loop-group-preserved : goal.loop-group-preserved
loop-group-preserved c = record {
  names_are = search (rules, common_steps);
  named = All-more (λ (g : GroupDef). IsName g.name) c.args.groups.now c.loop-group.group-index c.group-item.result c.loop-group-test.true
      c.loop-group.invariant.named (subst (λ (g : GroupDef). IsName g.name) c.group-item.is c.in_ok-name.ensures.name);
}
