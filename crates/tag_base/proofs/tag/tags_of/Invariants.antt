use Rattle.std.proofs.Common.{◌≡◌, All, [], map, drop, vec_len}
use Rattle.toml.specs.View.{table_view}
use Rattle.trend_num.specs.{TuningInRange}
use Rattle.tag_base.specs.{tags_after}
use Rattle.tag_base.proofs.tag.tags_of.Given as goal

abbrev pub invariant-loop-table : goal.invariant-loop-table
invariant-loop-table l = record {
  read : tags_after l.tags.items (map (λ t. table_view t.now) (drop l.table-index l.tables)) ≡ tags_after [] (map (λ t. table_view t.now) l.tables);
  as_many : vec_len l.tags ≡ l.table-index;
  tuned : All (λ tag. TuningInRange tag.tuning) l.tags.items;
}
