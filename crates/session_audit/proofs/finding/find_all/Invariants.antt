use Rattle.session_audit.proofs.FindingTurns.{AreFoundTo}
use Rattle.session_audit.proofs.finding.find_all.Given as goal

abbrev pub invariant-loop-unit : goal.invariant-loop-unit
invariant-loop-unit g l = AreFoundTo g.T.Taped.tape_of g.K.Kind.shows l.unit l.units l.initial.works l.works
