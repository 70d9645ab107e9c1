-- What a crash may leave of a device. Between two syncs each written range, and all past the old end, may hold any
-- bytes, and the length is any between the least and the greatest. Other bytes stay. After a sync it leaves what a read
-- returns.
use Rattle.std.specs.Prelude.{◌≡◌, ◌⊎◌, ℕ, ◌+◌, ◌<◌, ◌≤◌, min, max, List, [], ◌∷◌, length, slice_index}
use Rattle.disk_model.specs.Traces.{DeviceCall, Wrote, WroteInPart, Resized, ResizedInPart, Synced, Idle, Trace, content, seen}

-- a place outside of the n places from at on
abbrev pub IsOutside : ℕ → ℕ → ℕ → Type 0
IsOutside at n i = (i < at) ⊎ (at + n ≤ i)

-- after a write of n bytes that a crash cuts short: any bytes in the range and past the old end, the same elsewhere
pub record IsTorn (at n : ℕ) (old new : List ℕ) : Type 0 where
  pub no_shorter : length old ≤ length new
  pub no_longer : length new ≤ max (length old) (at + n)
  pub outside : (i : ℕ) → i < length old → IsOutside at n i → slice_index new i ≡ slice_index old i

-- after a change of the length that a crash cuts short: some length between, and the same bytes as far as both reach
pub record IsBetween (len : ℕ) (old new : List ℕ) : Type 0 where
  pub no_shorter : min (length old) len ≤ length new
  pub no_longer : length new ≤ max (length old) len
  pub both : (i : ℕ) → i < length old → i < length new → slice_index new i ≡ slice_index old i

-- an image that a crash may leave after these calls, the newest first
abbrev pub IsImage : List ℕ → List DeviceCall → List ℕ → Type 0
IsImage first [] c = c ≡ first
IsImage first (Wrote at bytes ∷ es) c = (d : List ℕ) × IsImage first es d × IsTorn at (length bytes) d c
IsImage first (WroteInPart at bytes ∷ es) c = (d : List ℕ) × IsImage first es d × IsTorn at (length bytes) d c
IsImage first (Resized len ∷ es) c = (d : List ℕ) × IsImage first es d × IsBetween len d c
IsImage first (ResizedInPart len ∷ es) c = (d : List ℕ) × IsImage first es d × IsBetween len d c
IsImage first (Synced ∷ es) c = c ≡ content first es
IsImage first (Idle ∷ es) c = IsImage first es c

-- an image that a crash now may leave
pub record MayLeave (o : Trace) (c : List ℕ) : Type 0 where
  pub image : IsImage o.first o.calls c

-- each image that a crash now may leave has P
pub record Now (o : Trace) (P : List ℕ → Type 0) : Type 0 where
  pub each : (c : List ℕ) → MayLeave o c → P c

-- a crash now leaves exactly what a read returns
abbrev pub IsSettled : Trace → Type 0
IsSettled o = Now o (λ c. c ≡ seen o)

-- c comes from an image of the earlier device by R
abbrev pub FromOld : Trace → (List ℕ → List ℕ → Type 0) → List ℕ → Type 0
FromOld o R c = (d : List ℕ) × MayLeave o d × R d c

-- no call among these wrote at the place or cut it off
abbrev pub IsUntouched : List DeviceCall → ℕ → Type 0
IsUntouched [] i = Unit {0}
IsUntouched (Wrote at bytes ∷ es) i = IsOutside at (length bytes) i × IsUntouched es i
IsUntouched (WroteInPart at bytes ∷ es) i = IsOutside at (length bytes) i × IsUntouched es i
IsUntouched (Resized len ∷ es) i = (i < len) × IsUntouched es i
IsUntouched (ResizedInPart len ∷ es) i = (i < len) × IsUntouched es i
IsUntouched (Synced ∷ es) i = IsUntouched es i
IsUntouched (Idle ∷ es) i = IsUntouched es i

-- new has each byte of old that these calls left alone
abbrev pub KeepsUntouched : List DeviceCall → List ℕ → List ℕ → Type 0
KeepsUntouched es old new = (i : ℕ) → i < length old → IsUntouched es i → (i < length new) × (slice_index new i ≡ slice_index old i)
