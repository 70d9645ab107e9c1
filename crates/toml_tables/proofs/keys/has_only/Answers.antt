use Rattle.std.proofs.Common.{◌∙◌, ◌||◌, ℕ, Bool, List, map, ap, string_bytes}
use Rattle.std.specs.List.{list_all}
use Rattle.toml_tables.specs.{is_key_among}
use Rattle.toml_tables.proofs.Entries.{all_keys-view}
use Rattle.toml_tables.proofs.keys.has_only.Goals as goal

-- The loop goes over the keys of the map, in their order.
pub loop-key-init : goal.loop-key-init
loop-key-init c =
    let needed = map (λ k. k.now) c.args.needed.now in
    let others = map (λ k. k.now) c.args.others.now in
    let test : List ℕ → Bool = λ k. is_key_among needed k || is_key_among others k in
    ap (list_all (λ k. test (string_bytes k))) (c.into_iter-key-iterator.ensures.into_iter_gives ∙ c.keys-key-items.ensures.rest)
    ∙ all_keys-view test c.args.table.now.entries
