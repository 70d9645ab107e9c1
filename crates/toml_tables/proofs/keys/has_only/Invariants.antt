use Rattle.std.proofs.Common.{◌≡◌, ◌||◌, map, string_bytes}
use Rattle.std.specs.List.{list_all}
use Rattle.toml.specs.View.{table_view}
use Rattle.toml_tables.specs.{is_key_among, all_keys}
use Rattle.toml_tables.proofs.keys.has_only.Given as goal

abbrev pub invariant-loop-key : goal.invariant-loop-key
invariant-loop-key l =
    list_all (λ k. is_key_among (map (λ n. n.now) l.needed) (string_bytes k) || is_key_among (map (λ n. n.now) l.others) (string_bytes k)) l.key-iterator
    ≡ all_keys (λ k. is_key_among (map (λ n. n.now) l.needed) k || is_key_among (map (λ n. n.now) l.others) k) (table_view l.table)
