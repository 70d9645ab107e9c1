use Rattle.std.proofs.Common.{arith, ◌≡◌, map, subst}
use Rattle.std.specs.Prelude.{◌≢◌}
use Rattle.std.proofs.lemmas.Result.{IfOk-weaker, IfErr-weaker}
use Rattle.plant_status.specs.declared.status.Status.TheVariants.{WantOfMemory}
use Rattle.plant_files.specs.{tag_names, AreNamed, AreQueries, AreReaderFiles, IsReaderRefused, IsQueriesRefusal}
use Rattle.plant_files.proofs.Named.{queries_of_base}
use Rattle.plant_files.proofs.queries.queries_of.Goals as goal
use Rattle.plant_files.proofs.queries.queries_of.Goals.{After-row_lists}

-- the queries are read over the names of the base
of_base : (g : _) (c : After-row_lists g) → (c.deref-3.result.now ≡ tag_names c.args.base.now.tags.items)
    × AreNamed c.args.base.now.groups.items c.deref-4.result.now
of_base g c = grind arith

pub returns-clause-queries : goal.returns-clause-queries
returns-clause-queries g c =
    let base = c.args.base.now in
    let told = g.F.Files.told c.args.files.now in
    let groups = c.deref-4.result.now in
    let (tags, named) = of_base g (goal.at.returns-clause-queries g c).After-row_lists in
    IfOk-weaker c.row_lists.result
    (λ lists. AreReaderFiles c.deref-3.result.now groups told c.deref-5.result.now (map (λ q. q.items) lists.items))
    (λ lists. AreQueries base told c.args.plan.now.readers.items (map (λ q. q.items) lists.items))
    (λ lists asked. grind arith)
    c.row_lists.ensures.rows

pub returns-clause-in_range : goal.returns-clause-in_range
returns-clause-in_range g c = grind (arith, of_base, queries_of_base)

pub returns-clause-refused : goal.returns-clause-refused
returns-clause-refused g c =
    let base = c.args.base.now in
    let told = g.F.Files.told c.args.files.now in
    let groups = c.deref-4.result.now in
    let (tags, named) = of_base g (goal.at.returns-clause-refused g c).After-row_lists in
    IfErr-weaker c.row_lists.result (λ why. why ≢ WantOfMemory → IsReaderRefused c.deref-3.result.now groups told c.deref-5.result.now why)
    (IsQueriesRefusal base told c.args.plan.now.readers.items)
    (λ why first other. record {
      groups = groups;
      named = named;
      first = subst (λ files. IsReaderRefused (tag_names base.tags.items) groups told files why) c.deref-5.ensures.value
          (subst (λ ts. IsReaderRefused ts groups told c.deref-5.result.now why) tags (first other));
    })
    c.row_lists.ensures.refused
