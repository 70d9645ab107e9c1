use Rattle.std.proofs.Common.{arith}
use Rattle.branded_disk.proofs.Pasts.{unused}
use Rattle.run_command.specs.Runs.{OfPlant}
use Rattle.run_command.proofs.opening.open_session.Goals as goal

pub returns-in-Ok-open_plant-clause-opened : goal.returns-in-Ok-open_plant-clause-opened
returns-in-Ok-open_plant-clause-opened g c =
    let plant = c.in-Ok-open_plant in
    record {
      tags = plant.ensures.tags;
      groups = plant.ensures.groups;
      as_many_tags = omega (arith, plant.ensures.as_many_cells, plant.plant.cells.ok);
      as_many_groups = omega (arith, plant.ensures.as_many_books, plant.plant.books.ok);
      few = plant.ensures.few_records;
    }

pub returns-in-Ok-open_plant-clause-defined : goal.returns-in-Ok-open_plant-clause-defined
returns-in-Ok-open_plant-clause-defined g c = λ i d b below. (c.in-Ok-open_plant.ensures.groups.each i d b below).def

pub returns-in-Ok-open_plant-clause-board : goal.returns-in-Ok-open_plant-clause-board
returns-in-Ok-open_plant-clause-board g c =
    omega (
      arith,
      c.in-Ok-boarding_for.ensures.tags,
      c.in-Ok-open_plant.ensures.as_many_cells,
      c.len.ensures,
      c.args.base.now.few_tags,
      c.args.base.now.tags.ok,
      c.in-Ok-open_plant.plant.cells.ok,
    )

pub returns-in-Err-clause-refused : goal.returns-in-Err-clause-refused
returns-in-Err-clause-refused g c = OfPlant c.in-Err.ensures.refused (record {
  tags = c.in-Err.ensures.same_tags;
  groups = c.in-Err.ensures.same_groups;
  others = c.open_plant.ensures.others;
})

pub open_plant-requires-clause-unused : goal.open_plant-requires-clause-unused
open_plant-requires-clause-unused g c κs within = λ k d below. unused g.K.Begun.before (g.S.Store.device_at c.args.store.now) c.requires.begun _

pub open_plant-requires-clause-unused_groups : goal.open_plant-requires-clause-unused_groups
open_plant-requires-clause-unused_groups g c κs within = λ k d below.
    unused g.K.Begun.before (g.S.Store.device_at c.args.store.now) c.requires.begun _
