use Rattle.std.proofs.Common.{◌∙◌, All, arith, refl, subst, sym}
use Rattle.std.specs.Prelude.{◌≢◌}
use Rattle.std.proofs.lemmas.List.Elements.{All-map}
use Rattle.tag_cell.specs.{device_name}
use Rattle.branded_disk.specs.{branded}
use Rattle.plant_store.specs.Groups as group
use Rattle.plant_store.specs.CellClosings.{AreHistoriesAt}
use Rattle.run_command.proofs.Zipped.{zip_length}
use Rattle.run_command.proofs.GroupDevices.{groups_back}
use Rattle.run_command.proofs.TagDevices.{told_each}
use Rattle.run_command.proofs.close.close.Goals as goal

pub report_of-requires-clause-tags : goal.report_of-requires-clause-tags
report_of-requires-clause-tags g c =
    omega (arith, zip_length _ _ _ c.close_plant-tags.ensures.tags, c.requires.cells, c.args.ended.cells.ok)

pub returns-clause-over : goal.returns-clause-over
returns-clause-over g c old whole rest =
    let new = g.S.Store.device_at c.close_plant-tags.new.store in
    let tags = c.args.base.now.tags.items in
    let groups = c.args.base.now.groups.items in
    record {
      tags = c.close_plant-tags.ensures.tags;
      groups = c.close_plant-tags.ensures.groups;
      as_many_tags = omega (arith, c.requires.cells, c.args.ended.cells.ok);
      as_many_groups = omega (arith, c.requires.books, c.args.ended.books.ok);
      devices = told_each g.K.Begun.before old whole new _ _
          (subst (λ names. AreHistoriesAt g.K.Begun.before new names c.close_plant-tags.result.0.items) c.requires.shelf.tag_names_are
          c.close_plant-tags.ensures.devices);
      others = λ n no_tag no_group. c.close_plant-tags.ensures.back.others n
          (subst (All (λ name. n ≢ name)) (sym c.requires.shelf.tag_names_are)
          (All-map (λ name. n ≢ name) (λ def. device_name def.name) tags no_tag))
          (subst (All (λ name. n ≢ name)) (sym c.requires.shelf.group_names_are)
          (All-map (λ name. n ≢ name) (λ d. group.device_name d.name) groups no_group))
          ∙ rest n no_tag no_group;
      group_devices = groups_back (branded g.S.Dev.Disk.device g.K.Begun.before) g.K.Begun.before old groups c.args.ended.books.items
          (g.S.Store.device_at c.args.store.now) new c.args.shelf.group_names.items c.close_plant-tags.result.1.items
          c.requires.shelf.group_names_are c.requires.shelf.groups_named (omega (arith, c.requires.books, c.args.ended.books.ok))
          c.close_plant-tags.ensures.groups c.close_plant-tags.ensures.back.of_groups whole (λ d. refl);
      no_log = refl;
    }
