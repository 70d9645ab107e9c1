-- Counts that have risen, or are the largest value of their type.
use Rattle.std.proofs.Common.{◌≡◌, inl, inr, ℕ, ◌+◌, ◌-◌, ◌^◌, ◌<◌, ◌≤◌, arith}
use Rattle.std.proofs.lemmas.Bool.{cases_lt}
use Rattle.disk_model.specs.{sum_of_counts}
use Rattle.plant_store.specs.CellClosings.{HasRisen}

-- what has risen stays so
pub still_risen : (before mid now : ℕ) → before < 2 ^ 64 → mid ≤ now → HasRisen before mid → HasRisen before now
still_risen before mid now small later (inl rose) = inl (omega (arith, rose, later))
still_risen before mid now small later (inr end) = elim (cases_lt before now) [
  | inl rose ↦ inl rose
  | inr same ↦ inr (omega (arith, end, later, same, small))
]

-- and what rises later has risen
pub sooner_risen : (before mid now : ℕ) → before ≤ mid → HasRisen mid now → HasRisen before now
sooner_risen before mid now later (inl rose) = inl (omega (arith, rose, later))
sooner_risen before mid now later (inr end) = inr end

-- a sum of counts is higher than something below the first, or the end of the type
pub higher_or_end : (before now more after : ℕ) → after ≡ sum_of_counts now more → before < now + more → HasRisen before after
higher_or_end before now more after sum higher = elim (cases_lt (2 ^ 64 - 1) (now + more)) [
  | inl past ↦ inr (omega (arith, sum, past))
  | inr below ↦ inl (omega (arith, sum, below, higher))
]
