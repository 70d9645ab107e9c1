use Rattle.std.proofs.Common.{◌≡◌, ℕ, None, take}
use Rattle.calc_refresh.specs.{lists_of}
use Rattle.session_report.specs.{HasPlaceOfEach, place_in}
use Rattle.session_report.proofs.places.empty_table.Given as goal

abbrev pub invariant-loop-queries : goal.invariant-loop-queries
invariant-loop-queries l = record {
  shape : HasPlaceOfEach (lists_of (take l.queries-index l.readers)) (lists_of l.table.items);
  none : (reader k : ℕ) → place_in (lists_of l.table.items) reader k ≡ None;
}
