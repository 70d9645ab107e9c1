use Rattle.std.proofs.Common.{arith, ◌≡◌, ◌∙◌, ap, map, subst}
use Rattle.std.specs.Prelude.{◌≢◌}
use Rattle.std.proofs.lemmas.Result.{IfOk-weaker, IfErr-weaker}
use Rattle.plant_status.specs.declared.status.Status.TheVariants.{WantOfMemory}
use Rattle.plant_files.specs.{tag_names, AreCollectorFiles, AreCollectedRows, IsCollectorRefused, IsCollectedRefusal}
use Rattle.plant_files.proofs.Named.{rows_of_base}
use Rattle.plant_files.proofs.rows.rows_of.Goals as goal

pub returns-clause-rows : goal.returns-clause-rows
returns-clause-rows g c =
    let base = c.args.base.now in
    let told = g.F.Files.told c.args.files.now in
    let tags : c.deref-2.result.now ≡ tag_names base.tags.items =
    c.deref-2.ensures.value ∙ c.in-Ok.ensures.names ∙ ap tag_names c.deref.ensures.value in
    IfOk-weaker c.row_lists.result
    (λ lists. AreCollectorFiles c.deref-2.result.now told c.deref-3.result.now (map (λ rows. rows.items) lists.items))
    (λ lists. AreCollectedRows base told c.args.plan.now.collectors.items (map (λ rows. rows.items) lists.items))
    (λ lists read. grind arith)
    c.row_lists.ensures.rows

pub returns-clause-in_range : goal.returns-clause-in_range
returns-clause-in_range g c = grind (arith, rows_of_base)

pub returns-clause-refused : goal.returns-clause-refused
returns-clause-refused g c =
    let base = c.args.base.now in
    let told = g.F.Files.told c.args.files.now in
    let tags : c.deref-2.result.now ≡ tag_names base.tags.items =
    c.deref-2.ensures.value ∙ c.in-Ok.ensures.names ∙ ap tag_names c.deref.ensures.value in
    IfErr-weaker c.row_lists.result (λ why. why ≢ WantOfMemory → IsCollectorRefused c.deref-2.result.now told c.deref-3.result.now why)
    (IsCollectedRefusal base told c.args.plan.now.collectors.items)
    (λ why first other. subst (λ files. IsCollectorRefused (tag_names base.tags.items) told files why) c.deref-3.ensures.value
    (subst (λ ts. IsCollectorRefused ts told c.deref-3.result.now why) tags (first other)))
    c.row_lists.ensures.refused
