use Rattle.std.proofs.Common.{◌≡◌, ◌≤◌, [], map, drop}
use Rattle.std.specs.Prelude.{vec_len}
use Rattle.toml.specs.View.{table_view}
use Rattle.tag_base.specs.Plans.{files_after}
use Rattle.tag_base.proofs.plan.files_of.Given as goal

abbrev pub invariant-loop-table : goal.invariant-loop-table
invariant-loop-table l = record {
  read : files_after l.rule l.files.items (map (λ t. table_view t.now) (drop l.table-index l.tables))
      ≡ files_after l.rule [] (map (λ t. table_view t.now) l.tables);
  few : vec_len l.files ≤ l.table-index;
}
