-- The rule on first numbers, as it is defined and as it is tested.
use Rattle.std.proofs.Common.{◌≡◌, ◌↔◌, ℕ, ◌+◌, ◌-◌, ◌<◌, Bool, true, false, List, sym, ◌∙◌, arith}
use Rattle.std.proofs.lemmas.Bool.{cases_order, true≢false}
use Rattle.disk_model.specs.{IsOpen}
use Rattle.event_queue.specs.{declared.reader.Scanned.Scanned, gate_of, batch_at, IsStale, IsStaleBehind, IsNextBehind, FollowsOn, IsCounted, IsLane, IsWithin, IsRead, FitsSlot}

module _ (slots taken : ℕ) (bytes : List ℕ) where
  -- a batch that numbers on is not stale
  pub next_beyond : (k : ℕ) → IsNextBehind slots bytes taken k → IsCounted (batch_at slots bytes k)
      → taken < (batch_at slots bytes k).first + (batch_at slots bytes k).count
  next_beyond k next counted = omega (arith, next.numbered, counted.some)

  -- of the open slots of a lane all are stale, or none is
  pub all_stale : (n i j : ℕ) → IsLane slots bytes taken n → i < n → j < n → IsOpen (gate_of i) bytes
      → IsOpen (gate_of j) bytes → IsStale taken (batch_at slots bytes i) → IsStale taken (batch_at slots bytes j)
  all_stale n i j lane i_in j_in i_open j_open stale = grind (arith, cases_order, next_beyond)

  module _ (k : ℕ) (s : Scanned) (read : IsRead slots taken bytes k s) (within : IsWithin slots taken k s) where
    -- if the scan found stale slots, all open slots are stale
    pub told_stale : s.stale ≡ true → (j : ℕ) → j < k → IsOpen (gate_of j) bytes
        → IsStale taken (batch_at slots bytes j)
    told_stale told j j_in j_open = grind (arith, all_stale)

    -- if it found none, no open slot is stale
    not_stale : s.stale ≡ false → (j : ℕ) → j < k → IsOpen (gate_of j) bytes
        → IsStale taken (batch_at slots bytes j) → ⊥
    not_stale untold j j_in j_open stale = true≢false (sym (read.stale.1 (j, j_in, j_open, stale)) ∙ untold)

    -- where slots were used and none is stale, the open ones number on up to the last
    pub last_next : s.stale ≡ false → 0 < s.lane.used → IsNextBehind slots bytes taken (s.lane.used - 1)
    last_next untold some = grind (arith, not_stale)

    module _ (counted : IsCounted (batch_at slots bytes k)) where
      -- the test is right if it answers yes
      pub fits_follow : (stale : Bool) → ((stale ≡ true) ↔ IsStale taken (batch_at slots bytes k))
          → FitsSlot s k (batch_at slots bytes k).first stale → FollowsOn slots bytes taken k
      fits_follow stale tested h2 = grind (arith, told_stale, last_next, next_beyond)

      -- and if it answers no: a stale batch comes after one that is not
      misfit_stale : IsStale taken (batch_at slots bytes k) → (FitsSlot s k (batch_at slots bytes k).first true → ⊥)
          → IsStaleBehind slots bytes taken k → ⊥
      misfit_stale stale unfit behind = grind (arith, not_stale)

      -- or one that is not stale does not number on
      misfit_next : (FitsSlot s k (batch_at slots bytes k).first false → ⊥) → IsNextBehind slots bytes taken k → ⊥
      misfit_next unfit next = grind arith

      pub misfit_follow : (stale : Bool) → ((stale ≡ true) ↔ IsStale taken (batch_at slots bytes k))
          → (FitsSlot s k (batch_at slots bytes k).first stale → ⊥) → FollowsOn slots bytes taken k → ⊥
      misfit_follow stale tested unfit follows = grind (arith, misfit_stale, next_beyond, true≢false, misfit_next)
