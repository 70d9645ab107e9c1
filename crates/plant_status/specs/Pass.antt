-- The counts of the stops by passes.
use Rattle.std.specs.Prelude.{ℕ, ◌+◌, ◌-◌, ◌^◌, Bool, true, false, List, fold, min}

-- the sum of two counts, or the end of the type if the sum is over it
abbrev pub sum_of_fault_counts : ℕ → ℕ → ℕ
sum_of_fault_counts m n = min (m + n) (2 ^ 64 - 1)

-- the sum of a count and these counts
abbrev pub sum_from : ℕ → List ℕ → ℕ
sum_from count counts = fold sum_of_fault_counts count counts

-- the count of false answers, after one more answer
abbrev pub stops_after : Bool → ℕ → ℕ
stops_after true stops = stops
stops_after false stops = sum_of_fault_counts stops 1
