-- The gates of an overtaken lane are closed.
use Rattle.disk_model.specs.{Calls.Shows, Traces.Trace, Traces.seen, Images.Now, Images.FromOld, Images.IsSettled, Moments.During, Gates.HasGatesOf, Gates.IsClosing}
use Rattle.std.proofs.Common.{◌≡◌, ℕ, ◌≤◌, true, false, List, length, ap, arith}
use Rattle.trend_num.specs.{TagDef}
use Rattle.trend_model.specs.State.{State}
use Rattle.event_queue.specs.{Slots.gate_of, Lanes.IsLane, Places.HasRoom, Places.IsOvertaken}
use Rattle.event_queue.proofs.{Overtaken.overtaken_none, Overtaken.overtaken_closing, Filled.lane_points_used}
use Rattle.crash_recovery.specs.{Seat, AllRecover, IsInUse, IsLaid, IsOverrun, LaidOn, OverrunOn, restarted}
use Rattle.device_layout.specs.{Recovers}
use Rattle.crash_recovery.proofs.Stored.{KeepsLane, recovers_same}
use Rattle.crash_recovery.proofs.DeviceReads.{now_shown, shown_now, shown_both, during_from, shown_from}
use Rattle.crash_recovery.proofs.Places.{OnlyLane, only_lane, laid_moved, settled_on, laid_shown, laid_again}

-- only the lane has changed
closing_lane : (slots used : ℕ) (a b : List ℕ) → used ≤ slots → IsClosing (gate_of 0) used a b
    → OnlyLane slots a b
closing_lane slots used a b le closing = grind arith

module _ (p : Seat) (le : p.lane.used ≤ p.lane.slots) (a b : List ℕ)
    (closing : IsClosing (gate_of 0) p.lane.used a b) where
  -- an overtaken lane stays so
  overtaken_after : IsOverrun p a → IsLane p.lane.slots a p.taken p.lane.slots
      → IsOvertaken p.lane.slots p.taken b
  overtaken_after over lane =
      overtaken_closing p.lane.slots p.taken p.lane.used a b le (record { lane = lane; stale = over.stale })
      closing

  -- it holds nothing, before and after
  closing_keeps : IsOverrun p a → KeepsLane p.lane.slots p.taken a b
  closing_keeps over = grind (arith, overtaken_after, overtaken_none)

-- a lane with no open gate is in use up to its first slot
pub in_use_fresh : (slots taken next : ℕ) (c : List ℕ) → HasRoom slots 0 c → next ≡ taken
    → IsInUse slots taken 0 next c
in_use_fresh slots taken next c room is = record {
  lane = record { sound = λ k below opened. absurd (room.shut k (omega arith) below opened) };
  opened = λ k below. absurd (omega (arith, below));
  beyond = λ k below. absurd (omega (arith, below));
  number = omega (arith, is, ap length (lane_points_used slots taken 0 c (omega arith) room));
}

module _ (o new : Trace) (p : Seat) (le : p.lane.used ≤ p.lane.slots) (laid : LaidOn p o)
    (during : During o new (FromOld o (IsClosing (gate_of 0) p.lane.used))) where
  -- each image recovers what it recovered
  pub restart_moments : (def : TagDef) (s : State) → AllRecover def o s → OverrunOn p o
      → During o new (λ c. Recovers def c s)
  restart_moments def s all over =
      let Q : List ℕ → Type 0 = λ c. IsLaid p c × (IsOverrun p c × Recovers def c s) in
      let known : Shows o Q =
      shown_both o (IsLaid p) (λ c. IsOverrun p c × Recovers def c s) (laid_shown p o laid)
      (shown_both o (IsOverrun p) (λ c. Recovers def c s) over (shown_now o (λ c. Recovers def c s) all)) in
      during_from o new (IsClosing (gate_of 0) p.lane.used) Q (λ c. Recovers def c s) (settled_on p o laid)
      known (λ a b q closing. recovers_same def p a b s q.0
      (only_lane p a b q.0 (closing_lane p.lane.slots p.lane.used a b le closing))
      (closing_keeps p le a b closing q.1.0) q.1.1) during

  -- and the lane begins anew
  pub restart_laid : p.stale ≡ true → IsSettled new → Now new (HasRoom p.lane.slots 0)
      → LaidOn (restarted p) new
  restart_laid stale settled room = laid_again (restarted p) new settled
      (shown_from o new (IsClosing (gate_of 0) p.lane.used) (IsLaid p) (HasRoom p.lane.slots 0)
      (IsLaid (restarted p))
      (settled_on p o laid) (laid_shown p o laid) (shown_now new (HasRoom p.lane.slots 0) room)
      (λ a b laid_a closing room_b. laid_moved p false 0 p.lane.next a b laid_a
      (only_lane p a b laid_a (closing_lane p.lane.slots p.lane.used a b le closing)) room_b
      (λ e. in_use_fresh p.lane.slots p.taken p.lane.next b room_b (laid_a.number stale))
      (λ e. absurd (cc (e)))) during)

-- ---- what a restart asks

-- each image has the room
pub room_now : (p : Seat) (o : Trace) → LaidOn p o → Now o (HasRoom p.lane.slots p.lane.used)
room_now p o laid = now_shown o (HasRoom p.lane.slots p.lane.used) (settled_on p o laid) (laid_shown p o laid).room

-- and the gates that a read gives
pub gates_now : (p : Seat) (o : Trace) → p.lane.used ≤ p.lane.slots → LaidOn p o
    → Now o (HasGatesOf (seen o) (gate_of 0) p.lane.used)
gates_now p o within laid = grind (arith, now_shown, settled_on, laid_shown)
