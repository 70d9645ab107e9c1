use Rattle.std.proofs.Common.{[], take}
use Rattle.calc_refresh.specs.{lists_of}
use Rattle.session_report.specs.{ArePlaces, HasPlaceOfEach}
use Rattle.session_report.proofs.places.fill_tags.Given as goal

abbrev pub invariant-loop-tag : goal.invariant-loop-tag
invariant-loop-tag l = record {
  places : ArePlaces (lists_of l.readers) (take l.tag l.tags) [] (lists_of l.table.items);
  shape : HasPlaceOfEach (lists_of l.readers) (lists_of l.table.items);
}
