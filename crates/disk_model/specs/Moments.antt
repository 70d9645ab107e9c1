-- What a crash at some moment might have left, within calls too. A moment is a number of calls.
use Rattle.std.specs.Prelude.{◌≡◌, ◌⊎◌, ℕ, ◌≤◌, List, [], ◌∷◌, ◌++◌, length}
use Rattle.disk_model.specs.Traces.{DeviceCall, Trace, moment}
use Rattle.disk_model.specs.Images.{IsImage}

-- an image that a crash might have left after the first t of these calls, or after more of them
abbrev pub WasImageSince : List ℕ → List DeviceCall → ℕ → List ℕ → Type 0
WasImageSince first [] t c = IsImage first [] c
WasImageSince first (e ∷ es) t c = IsImage first (e ∷ es) c ⊎ ((t ≤ length es) × WasImageSince first es t c)

-- the same of a device
pub record LeftSince (o : Trace) (t : ℕ) (c : List ℕ) : Type 0 where
  pub image : WasImageSince o.first o.calls t c

-- the device is the earlier one after some more calls
abbrev pub ComesAfter : Trace → Trace → Type 0
ComesAfter old new = (new.first ≡ old.first) × (es : List DeviceCall) × (new.calls ≡ es ++ old.calls)

-- a crash at any moment from the old device to the new one leaves what has P
pub record During (old new : Trace) (P : List ℕ → Type 0) : Type 0 where
  pub later : ComesAfter old new
  pub each : (c : List ℕ) → LeftSince new (moment old) c → P c
