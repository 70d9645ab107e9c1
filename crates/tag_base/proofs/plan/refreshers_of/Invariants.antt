use Rattle.std.proofs.Common.{◌≡◌, [], map, drop, length, ◌<◌, All}
use Rattle.toml.specs.View.{table_view}
use Rattle.tag_base.specs.Plans.{refreshers_after}
use Rattle.tag_base.proofs.plan.refreshers_of.Given as goal

abbrev pub invariant-loop-table : goal.invariant-loop-table
invariant-loop-table l = record {
  read : refreshers_after l.groups l.refreshers.items (map (λ t. table_view t.now) (drop l.table-index l.tables))
      ≡ refreshers_after l.groups [] (map (λ t. table_view t.now) l.tables);
  groups : All (λ r. r.group < length l.groups) l.refreshers.items;
}
