use Rattle.std.proofs.Common.{◌≡◌, ◌<◌, ℕ, length, take, get_or}
use Rattle.session_audit.specs.{turns_for}
use Rattle.session_audit.proofs.group_turns.turns_of.Given as goal

abbrev pub invariant-loop-refresh : goal.invariant-loop-refresh
invariant-loop-refresh l = record {
  groups : length l.turns.items ≡ l.groups;
  turns : (group : ℕ) → group < l.groups → get_or l.turns.items group 0 ≡ turns_for group (take l.refresh-index l.refreshers);
}
