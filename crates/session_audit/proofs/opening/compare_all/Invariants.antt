use Rattle.std.proofs.Common.{◌<◌, ℕ, get_or}
use Rattle.session_audit.proofs.opening.compare_all.Given as goal

abbrev pub invariant-loop-number : goal.invariant-loop-number
invariant-loop-number g l =
    (i : ℕ) (c : g.row.T.Denot) (k : g.row.T-Kept.Denot) → i < l.number → g.T.Opened.is_as_kept (get_or l.opened i c) (get_or l.known i k)
