use Rattle.std.proofs.Common.{◌≡◌, ◌≤◌, ◌-◌, drop, length, take}
use Rattle.session_audit.specs.{pulled, reached}
use Rattle.session_audit.proofs.group_pulls.compare_ends.Given as goal

abbrev pub invariant-loop-pull : goal.invariant-loop-pull
invariant-loop-pull l = record {
  at : l.at ≤ length l.tape;
  of : l.of ≤ length l.turns;
  ends : drop l.turn (pulled l.group l.tape) ≡ pulled l.group (drop l.at l.tape);
  versions : drop l.turn (reached l.input l.turns) ≡ reached l.input (drop l.of l.turns);
  before : take l.turn (pulled l.group l.tape) ≡ take l.turn (reached l.input l.turns);
}

abbrev pub decreases-loop-pull : goal.decreases-loop-pull
decreases-loop-pull l = length l.tape - l.at
