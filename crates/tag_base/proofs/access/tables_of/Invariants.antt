use Rattle.std.proofs.Common.{◌≡◌, [], map, drop}
use Rattle.toml.specs.View.{table_view, items_view}
use Rattle.tag_base.specs.{tables_after}
use Rattle.tag_base.proofs.access.tables_of.Given as goal

abbrev pub invariant-loop-item : goal.invariant-loop-item
invariant-loop-item l =
    tables_after (map (λ t. table_view t.now) l.tables.items) (items_view (drop l.item-index l.items)) ≡ tables_after [] (items_view l.items)
