use Rattle.std.proofs.Common.{◌≡◌, map, take, vec_len}
use Rattle.plant_files.proofs.names.names_of_group.Given as goal

abbrev pub invariant-loop-def : goal.invariant-loop-def
invariant-loop-def l = record {
  names : l.calcs.items ≡ map (λ d. d.name) (take l.def-index l.defs);
  as_many : vec_len l.calcs ≡ l.def-index;
}
