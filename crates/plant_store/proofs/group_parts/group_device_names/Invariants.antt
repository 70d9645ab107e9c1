use Rattle.std.proofs.Common.{All, take}
use Rattle.trend_num.specs.{IsName}
use Rattle.plant_store.specs.Groups.{AreNamesOf}
use Rattle.plant_store.proofs.group_parts.group_device_names.Given as goal

abbrev pub invariant-loop-group : goal.invariant-loop-group
invariant-loop-group l = record {
  names_are : AreNamesOf (take l.group-index l.groups) l.names.items;
  named : All (λ g. IsName g.name) (take l.group-index l.groups);
}
