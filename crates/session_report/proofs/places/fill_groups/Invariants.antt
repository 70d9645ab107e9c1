use Rattle.std.proofs.Common.{[], List, take}
use Rattle.tag_cell.specs.{TagHistory}
use Rattle.calc_refresh.specs.{lists_of}
use Rattle.session_report.specs.{ArePlaces, HasPlaceOfEach}
use Rattle.session_report.proofs.places.fill_groups.Given as goal

abbrev pub invariant-loop-group : goal.invariant-loop-group
invariant-loop-group l = record {
  places : (tags : List TagHistory) → ArePlaces (lists_of l.readers) tags [] (lists_of l.initial.table.items)
      → ArePlaces (lists_of l.readers) tags (take l.group l.groups) (lists_of l.table.items);
  shape : HasPlaceOfEach (lists_of l.readers) (lists_of l.table.items);
}
