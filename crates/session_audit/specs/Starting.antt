-- The progress of workers before any row is found.
use Rattle.std.specs.Prelude.{◌≡◌, ℕ, ◌<◌, List, All, IfSome, length, Option}
use Rattle.session_audit.specs.declared.agenda.Item.{Item}
use Rattle.session_audit.specs.Found.{IsUnfound, Reached}

-- if a row is due, it is due at one of so many units
abbrev pub IsDueWithin : {A : Type 0} → (ℕ → ℕ → A → Option Item) → ℕ → A → Type 0
IsDueWithin item_of many row = (worker number : ℕ) → IfSome (item_of worker number row) (λ item. item.unit < many)

-- no row of any worker is found at any of so many units
pub record AreUnfound (many : ℕ) (works : List Reached) : Type 0 where
  pub units : All (λ p. length p.at ≡ many) works
  pub each : All (λ p. (unit : ℕ) → unit < many → IsUnfound unit p) works
