use Rattle.std.proofs.Common.{◌≡◌, [], map, drop, vec_len}
use Rattle.toml.specs.View.{table_view}
use Rattle.tag_base.specs.{formula_text_of, calcs_after}
use Rattle.tag_base.proofs.calculation.calcs_of.Given as goal

abbrev pub invariant-loop-table : goal.invariant-loop-table
invariant-loop-table l = record {
  read : calcs_after (map formula_text_of l.calcs.items) (map (λ t. table_view t.now) (drop l.table-index l.tables))
      ≡ calcs_after [] (map (λ t. table_view t.now) l.tables);
  as_many : vec_len l.calcs ≡ l.table-index;
}
