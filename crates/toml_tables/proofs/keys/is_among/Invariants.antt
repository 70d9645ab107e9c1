use Rattle.std.proofs.Common.{◌≡◌, map, drop}
use Rattle.toml_tables.specs.{is_key_among}
use Rattle.toml_tables.proofs.keys.is_among.Given as goal

abbrev pub invariant-loop-k : goal.invariant-loop-k
invariant-loop-k l = is_key_among (map (λ k. k.now) (drop l.k-index l.keys)) l.key ≡ is_key_among (map (λ k. k.now) l.keys) l.key
