use Rattle.std.proofs.Common.{◌≡◌, All, [], drop, vec_len}
use Rattle.toml.specs.View.{items_view}
use Rattle.toml_tables.specs.{places_after}
use Rattle.toml_tables.proofs.places.places_of.Given as goal

abbrev pub invariant-loop-item : goal.invariant-loop-item
invariant-loop-item g l = record {
  read : places_after (g.P.Places.place_of l.places) l.found.items (items_view (drop l.item-index l.items)) ≡ places_after (g.P.Places.place_of l.places) [] (items_view l.items);
  are_places : All (g.P.Places.is_place l.places) l.found.items;
  as_many : vec_len l.found ≡ l.item-index;
}
