use Rattle.std.proofs.Common.{◌≡◌, ◌≤◌, length}
use Rattle.session_audit.specs.Agendas.{items_of}
use Rattle.session_audit.specs.{AreLinked}
use Rattle.session_audit.proofs.progress.link_all.Given as goal

abbrev pub invariant-loop-place : goal.invariant-loop-place
invariant-loop-place l = record {
  linked : AreLinked (items_of l.agenda) l.next l.at l.place;
  within : l.place ≤ length l.next;
  units : length l.at ≡ length l.initial.at;
  as_many : length l.next ≡ length (items_of l.agenda);
}

abbrev pub decreases-loop-place : goal.decreases-loop-place
decreases-loop-place l = l.place
