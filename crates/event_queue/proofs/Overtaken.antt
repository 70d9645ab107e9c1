-- A lane that a summary has overtaken.
use Rattle.std.proofs.Common.{◌≡◌, ℕ, zero, suc, ◌<◌, ◌≤◌, List, [], refl, sym, subst, arith}
use Rattle.disk_model.specs.{IsOpen, IsClosing}
use Rattle.event_queue.specs.{gate_of, batch_at, IsStale, points_before, IsOvertaken}
use Rattle.event_queue.proofs.{Steps.points_open, SameLanes.same_behind}

-- it holds nothing beyond the summary
pub overtaken_none : (slots taken : ℕ) (c : List ℕ) → IsOvertaken slots taken c → (n : ℕ) → n ≤ slots
    → points_before slots c taken n ≡ []
overtaken_none slots taken c over zero within = refl
overtaken_none slots taken c over (suc n) within = grind (arith, points_open, overtaken_none slots taken c over n)

-- it stays overtaken where some of its gates are closed or torn
pub overtaken_closing : (slots taken used : ℕ) (old new : List ℕ) → used ≤ slots → IsOvertaken slots taken old
    → IsClosing (gate_of 0) used old new → IsOvertaken slots taken new
overtaken_closing slots taken used old new le over closing = grind (arith, was_open, batch_same, stale)
  where
    was_open : (k : ℕ) → IsOpen (gate_of k) new → IsOpen (gate_of k) old
    was_open k opened = grind arith

    batch_same : (k : ℕ) → batch_at slots new k ≡ batch_at slots old k
    batch_same k = grind (arith, same_behind)

    stale : (k : ℕ) → k < slots → IsOpen (gate_of k) new → IsStale taken (batch_at slots new k)
    stale k below opened = subst (IsStale taken) (sym (batch_same k)) (over.stale k below (was_open k opened))
