use Rattle.std.proofs.Common.{arith}
use Rattle.std.proofs.lemmas.List.{take_all}
use Rattle.plant_files.proofs.Named.{names_of_defs}
use Rattle.plant_files.proofs.names.names_of_group.Goals as goal

pub returns-clause-named : goal.returns-clause-named
returns-clause-named c = grind (arith, take_all, names_of_defs)
