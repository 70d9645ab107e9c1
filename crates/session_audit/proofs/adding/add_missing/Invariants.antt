use Rattle.std.proofs.Common.{◌<◌, ℕ, [], length, get_or}
use Rattle.calc_refresh.specs.{lists_of}
use Rattle.session_audit.specs.{AreOver, AreTapesFound, IsCaughtTo, AreEach}
use Rattle.session_audit.proofs.adding.add_missing.Given as goal

abbrev pub invariant-loop-worker : goal.invariant-loop-worker
invariant-loop-worker g l = record {
  over : AreOver (g.A.Adding.item_of l.how) (length l.units) (lists_of l.files) l.works;
  found : AreTapesFound g.A.Unit.Taped.tape_of g.A.Adding.shows l.units l.works;
  caught : (w : ℕ) → w < l.worker → IsCaughtTo (length (get_or (lists_of l.files) w [])) w l.works;
  gained : AreEach g.A.Adding.gains l.initial.units l.units;
}
