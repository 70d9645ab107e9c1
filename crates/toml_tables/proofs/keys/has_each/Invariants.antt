use Rattle.std.proofs.Common.{◌≡◌, map, drop}
use Rattle.std.specs.List.{list_all}
use Rattle.toml.specs.View.{table_view}
use Rattle.toml_tables.specs.{has_key}
use Rattle.toml_tables.proofs.keys.has_each.Given as goal

abbrev pub invariant-loop-key : goal.invariant-loop-key
invariant-loop-key l =
    list_all (has_key (table_view l.table)) (map (λ k. k.now) (drop l.key-index l.keys)) ≡ list_all (has_key (table_view l.table)) (map (λ k. k.now) l.keys)
