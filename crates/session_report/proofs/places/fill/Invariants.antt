use Rattle.std.proofs.Common.{take}
use Rattle.calc_refresh.specs.{lists_of}
use Rattle.session_report.specs.{HasPlaceOfEach, ArePlacesFilled}
use Rattle.session_report.proofs.places.fill.Given as goal

abbrev pub invariant-loop-place : goal.invariant-loop-place
invariant-loop-place g l = record {
  filled : ArePlacesFilled g.E.Answers.asker (lists_of l.readers) l.unit (take l.place l.tape) (lists_of l.initial.table.items)
      (lists_of l.table.items);
  shape : HasPlaceOfEach (lists_of l.readers) (lists_of l.table.items);
}
