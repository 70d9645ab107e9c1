use Rattle.std.proofs.Common.{◌≡◌, ◌<◌, ◌^◌, All, take, vec_len}
use Rattle.plant_files.specs.{AreNamed}
use Rattle.plant_files.proofs.names.names_of_groups.Given as goal

abbrev pub invariant-loop-group : goal.invariant-loop-group
invariant-loop-group l = record {
  named : AreNamed (take l.group-index l.groups) l.names.items;
  as_many : vec_len l.names ≡ l.group-index;
  few_calcs : All (λ g. vec_len g.calcs < 2 ^ 32) l.names.items;
}
