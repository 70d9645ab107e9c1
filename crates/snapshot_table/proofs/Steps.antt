-- The steps of a cell keep its rule.
use Rattle.std.proofs.Common.{arith, ◌≡◌, ℕ, ◌≤◌, ◌<◌, ◌^◌, true, [], ◌∷◌, zero-le}
use Rattle.crossbeam_utils.specs.Register.{Turns, Forks}
use Rattle.atomic_table.proofs.Lists.{at_set, at_snoc, set_again}
use Rattle.trend_num.specs.{Snap}
use Rattle.snapshot_table.specs.{Shown, View, nothing, snap_of, FitsPost, IsKept, Looks, Posts, looking, posting}

-- one who looks fits all words that count no fewer events
looks_fit : (words : Shown) (by : ℕ) (snap : Snap) → snap.taken ≤ words.taken → FitsPost words by (looking snap)
looks_fit words by snap no_later = record { first = λ e. cc; last = λ e. cc; no_later = no_later }

-- the words of a new cell fit the first view
pub made : (words : Shown) → words.size < 2 ^ 63 → snap_of words ≡ nothing → IsKept words (posting nothing ∷ [])
made words fit is = grind (arith, zero-le)

-- a look keeps the rule, and shows no earlier words
pub look_turns : (pass : ℕ) (v : View) → Turns IsKept pass v (λ x. x) Looks
look_turns pass v x views kept at = grind (arith, looks_fit, at_set)

-- a post by the one who posts keeps the rule, where it counts no fewer events
pub post_turns : (pass : ℕ) (v : View) (y : Shown) → v.posts ≡ true → y.size < 2 ^ 63 → v.snap.taken ≤ y.taken
    → Turns IsKept pass v (λ _. y) Posts
post_turns pass v y posts fit later x views kept at = grind (arith, at_set)

-- one who looks may be split off any view
pub forks : (pass : ℕ) (v : View) → Forks IsKept pass v v (looking v.snap)
forks pass v x views kept at = grind (arith, set_again, looks_fit, at_snoc)
