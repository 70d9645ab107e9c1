-- Blocks that a reader goes over: one more, and all, and the first that breaks a rule.
use Rattle.std.proofs.Common.{◌≡◌, ℕ, ◌+◌, ◌<◌, ◌≤◌, List, [], ◌∷◌, ◌++◌, drop, length, Option, arith}
use Rattle.std.proofs.lemmas.List.{get_or-drop}
use Rattle.disk_model.specs.{IsOpen}
use Rattle.archive_file.specs.{Field, AreAllRead, AreRead, IsFirstBroken, Step, BreaksFirst}
use Rattle.archive_file.proofs.Windows.{rest_first}

-- the gate in front of the bytes from a place on is the one at that place
pub gate_here : (c : List ℕ) (at : ℕ) → IsOpen 0 (drop at c) → IsOpen at c
gate_here c at opened = grind (arith, get_or-drop)

pub gate_there : (c : List ℕ) (at : ℕ) → IsOpen at c → IsOpen 0 (drop at c)
gate_there c at opened = grind (arith, get_or-drop)

module _ {R : Type 0} (adds : R → List ℕ → ℕ → R → Type 0) (c : List ℕ) where
  -- the reader went over some blocks up to a gate
  pub record IsReadTo (r : R) (at : ℕ) (s : R) (end : ℕ) : Type 0 where
    pub steps : List (Step R)
    pub are : AreRead adds c r at steps s end

  -- over one more
  read_on : (r : R) (at : ℕ) (steps : List (Step R)) (s : R) (end size : ℕ) (next : R) → AreRead adds c r at steps s end → IsOpen end c
      → adds s (drop end c) size next → AreRead adds c r at (steps ++ record { size = size; reader = next } ∷ []) next (end + size)
  read_on r at [] s end size next are opened added = grind arith
  read_on r at (step ∷ steps) s end size next are opened added =
      (are.0, are.1, read_on step.reader (at + step.size) steps s end size next are.2 opened added)

  pub read_next : (r : R) (at : ℕ) (s : R) (end size : ℕ) (next : R) (now : List ℕ) → IsReadTo r at s end → now ≡ c → IsOpen 0 (drop end now)
      → adds s (drop end now) size next → IsReadTo r at next (end + size)
  read_next r at s end size next now before same opened added = grind (arith, read_on, gate_here)

  -- what holds at first, and which each block keeps, holds at last
  pub read_keeps : (P : R → ℕ → Type 0) → ((s : R) (end size : ℕ) (next : R) → P s end → IsOpen end c → adds s (drop end c) size next → P next (end + size))
      → (r : R) (at : ℕ) (steps : List (Step R)) (s : R) (end : ℕ) → P r at → AreRead adds c r at steps s end → P s end
  read_keeps P keeps r at [] s end first are = grind arith
  read_keeps P keeps r at (step ∷ steps) s end first are =
      read_keeps P keeps step.reader (at + step.size) steps s end (keeps r at step.size step.reader first are.0 are.1) are.2

  -- a block after them breaks a rule
  pub broken_next : (fields : R → List ℕ → List Field) (r : R) (at : ℕ) (s : R) (end a : ℕ) (byte : Option ℕ) (now : List ℕ) → IsReadTo r at s end
      → end ≤ length c → now ≡ c → IsOpen 0 (drop end now) → (b : ℕ) × (a ≡ end + b) × BreaksFirst (drop end now) (fields s (drop end now)) b byte
      → IsFirstBroken adds fields c r at a byte
  broken_next fields r at s end a byte now before there same opened broken = grind (arith, gate_here, rest_first)

  -- all of them
  pub all_read : (r : R) (at : ℕ) (s : R) (end : ℕ) → IsReadTo r at s end → end < length c → (IsOpen end c → ⊥) → AreAllRead adds c r at s end
  all_read r at s end before there shut = grind arith
