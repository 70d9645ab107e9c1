use Rattle.std.proofs.Common.{take}
use Rattle.session_audit.specs.{AreFound, AreFurther}
use Rattle.session_audit.proofs.walk.find.Given as goal

abbrev pub invariant-loop-place : goal.invariant-loop-place
invariant-loop-place g l = record {
  found : AreFound g.K.Kind.shows l.unit (take l.place l.tape) l.works;
  further : AreFurther l.unit l.initial.works l.works;
}
