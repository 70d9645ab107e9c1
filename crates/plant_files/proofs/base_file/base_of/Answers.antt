use Rattle.std.proofs.Common.{arith}
use Rattle.plant_files.proofs.Distinct.{names_apart}
use Rattle.plant_files.proofs.DistinctGroups.{group_names_apart}
use Rattle.plant_files.proofs.base_file.base_of.Goals as goal

pub returns-in-Ok-read_base-clause-distinct : goal.returns-in-Ok-read_base-clause-distinct
returns-in-Ok-read_base-clause-distinct g c = names_apart c.deref.result.now c.in-Ok-read_base.base c.in-Ok-read_base.ensures.base

pub returns-in-Ok-read_base-clause-distinct_groups : goal.returns-in-Ok-read_base-clause-distinct_groups
returns-in-Ok-read_base-clause-distinct_groups g c = grind (arith, group_names_apart)
