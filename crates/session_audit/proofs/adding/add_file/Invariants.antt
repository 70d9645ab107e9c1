use Rattle.std.proofs.Common.{length}
use Rattle.session_audit.specs.{AreOthersSame, AreTapesFound, IsCaughtTo, IsOver, AreEach}
use Rattle.session_audit.proofs.adding.add_file.Given as goal

abbrev pub invariant-loop-place : goal.invariant-loop-place
invariant-loop-place g l = record {
  over : IsOver (g.A.Adding.item_of l.how) (length l.units) l.worker l.rows l.works;
  found : AreTapesFound g.A.Unit.Taped.tape_of g.A.Adding.shows l.units l.works;
  caught : IsCaughtTo l.place l.worker l.works;
  others : AreOthersSame l.worker l.initial.works l.works;
  gained : AreEach g.A.Adding.gains l.initial.units l.units;
}
