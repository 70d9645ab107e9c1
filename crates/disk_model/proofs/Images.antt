-- What a crash may leave after one call more, or after some.
use Rattle.std.proofs.Common.{◌≡◌, ◌⊎◌, inl, inr, ℕ, ◌<◌, List, [], ◌∷◌, ◌++◌, length, get_or, Result, Ok, Err, refl, sym, subst, arith}
use Rattle.disk_model.specs.{DeviceCall, Wrote, WroteInPart, Resized, ResizedInPart, Synced, Idle, Trace, content, seen, noted, IsOutside, IsTorn, IsBetween, IsImage, MayLeave, IsSettled, FromOld, IsUntouched, KeepsUntouched, IsNoted}
use Rattle.disk_model.proofs.Bytes.{torn_written, torn_self, between_resized, between_self}

-- what a read gives is an image
pub honest : (first : List ℕ) (es : List DeviceCall) → IsImage first es (content first es)
honest first [] = refl
honest first (Wrote at bytes ∷ es) = (content first es, honest first es, torn_written (content first es) at bytes)
honest first (WroteInPart at bytes ∷ es) = (content first es, honest first es, torn_self at (length bytes) (content first es))
honest first (Resized len ∷ es) = (content first es, honest first es, between_resized (content first es) len)
honest first (ResizedInPart len ∷ es) = (content first es, honest first es, between_self len (content first es))
honest first (Synced ∷ es) = refl
honest first (Idle ∷ es) = honest first es

-- the same of a device
pub present : (t : Trace) → MayLeave t (seen t)
present t = record { image = honest t.first t.calls }

-- a place that a write left alone, and the calls before it too
torn_keeps : (es : List DeviceCall) (at n : ℕ) (d mid c : List ℕ) → KeepsUntouched es d mid → IsTorn at n mid c
    → (i : ℕ) → i < length d → IsOutside at n i → IsUntouched es i → (i < length c) × (get_or c i 0 ≡ get_or d i 0)
torn_keeps es at n d mid c keeps torn i there out untouched = grind arith

-- a place that a change of the length left alone, and the calls before it too
cut_keeps : (es : List DeviceCall) (len : ℕ) (d mid c : List ℕ) → KeepsUntouched es d mid → IsBetween len mid c
    → (i : ℕ) → i < length d → i < len → IsUntouched es i → (i < length c) × (get_or c i 0 ≡ get_or d i 0)
cut_keeps es len d mid c keeps between i there short untouched = grind arith

-- an image by these calls after those keeps what these did not touch of one by those
pub kept : (first : List ℕ) (since before : List DeviceCall) (c : List ℕ) → IsImage first (since ++ before) c
    → (d : List ℕ) × IsImage first before d × KeepsUntouched since d c
kept first [] before c image = (c, image, λ i there untouched. (there, refl))
kept first (Wrote at bytes ∷ since) before c image =
    let earlier = kept first since before image.0 image.1 in
    (earlier.0, earlier.1, λ i there u. torn_keeps since at (length bytes) earlier.0 image.0 c earlier.2 image.2 i there u.0 u.1)
kept first (WroteInPart at bytes ∷ since) before c image =
    let earlier = kept first since before image.0 image.1 in
    (earlier.0, earlier.1, λ i there u. torn_keeps since at (length bytes) earlier.0 image.0 c earlier.2 image.2 i there u.0 u.1)
kept first (Resized len ∷ since) before c image =
    let earlier = kept first since before image.0 image.1 in
    (earlier.0, earlier.1, λ i there u. cut_keeps since len earlier.0 image.0 c earlier.2 image.2 i there u.0 u.1)
kept first (ResizedInPart len ∷ since) before c image =
    let earlier = kept first since before image.0 image.1 in
    (earlier.0, earlier.1, λ i there u. cut_keeps since len earlier.0 image.0 c earlier.2 image.2 i there u.0 u.1)
kept first (Synced ∷ since) before c image =
    kept first since before c (subst (IsImage first (since ++ before)) (sym image) (honest first (since ++ before)))
kept first (Idle ∷ since) before c image = kept first since before c image

-- after a sync there is one image, so bytes that no call touched since are the same in all
pub kept_since_sync : (first : List ℕ) (since before : List DeviceCall) (c : List ℕ) → IsImage first (since ++ Synced ∷ before) c
    → KeepsUntouched since (content first before) c
kept_since_sync first since before c image = grind (arith, kept)

-- one more call is recorded as one of four things
pub cases_noted : {T E : Type 0} (whole part : DeviceCall) (r : Result T E) (old new : Trace) → IsNoted whole part r old new
    → (new ≡ noted whole old) ⊎ ((new ≡ noted part old) ⊎ ((new ≡ noted Idle old) ⊎ (new ≡ old)))
cases_noted whole part (Ok x) old new is = inl is
cases_noted whole part (Err e) old new is = inr is

-- an image after a write that was done
after_whole_write : (old : Trace) (at : ℕ) (bytes c : List ℕ) → MayLeave (noted (Wrote at bytes) old) c → FromOld old (IsTorn at (length bytes)) c
after_whole_write t at bytes c may = (may.image.0, record { image = may.image.1 }, may.image.2)

-- an image after a write that failed
after_part_write : (old : Trace) (at : ℕ) (bytes c : List ℕ) → MayLeave (noted (WroteInPart at bytes) old) c → FromOld old (IsTorn at (length bytes)) c
after_part_write t at bytes c may = (may.image.0, record { image = may.image.1 }, may.image.2)

-- an image after an idle call
after_idle : (old : Trace) (c : List ℕ) → MayLeave (noted Idle old) c → MayLeave old c
after_idle t c may = record { image = may.image }

-- an image after a sync that was done
after_sync : (old : Trace) (c : List ℕ) → MayLeave (noted Synced old) c → MayLeave old c
after_sync t c may = record { image = subst (IsImage t.first t.calls) (sym may.image) (honest t.first t.calls) }

-- whatever a write answered, an image after it comes from one before it by a torn write
pub wrote_now : {T E : Type 0} (r : Result T E) (old new : Trace) (at : ℕ) (bytes c : List ℕ)
    → IsNoted (Wrote at bytes) (WroteInPart at bytes) r old new → MayLeave new c → FromOld old (IsTorn at (length bytes)) c
wrote_now r old new at bytes c is may = elim (cases_noted (Wrote at bytes) (WroteInPart at bytes) r old new is) [
  | inl whole ↦ after_whole_write old at bytes c (rw whole at may)
  | inr (inl part) ↦ after_part_write old at bytes c (rw part at may)
  | inr (inr (inl idle)) ↦ (c, after_idle old c (rw idle at may), torn_self at (length bytes) c)
  | inr (inr (inr same)) ↦ (c, rw same at may, torn_self at (length bytes) c)
]

-- whatever a sync answered, an image after it was one before it
pub synced_now : {T E : Type 0} (r : Result T E) (old new : Trace) (c : List ℕ) → IsNoted Synced Idle r old new → MayLeave new c → MayLeave old c
synced_now r old new c is may = grind (arith, cases_noted, after_sync, after_idle)

-- a sync that was done leaves one image
pub settled : (old : Trace) → IsSettled (noted Synced old)
settled t = record { each = λ c may. may.image }
