-- What a crash leaves in each of the four steps of a guarded write.
use Rattle.std.proofs.Common.{◌≡◌, ℕ, ◌+◌, ◌<◌, ◌≤◌, List, [], ◌∷◌, length, Result, refl, ◌∙◌, ap, subst, arith}
use Rattle.disk_model.specs.{Wrote, WroteInPart, Synced, Idle, Trace, seen, noted, written, IsOutside, IsTorn, MayLeave, Now, FromOld, During, IsNoted, Reaches, Sees, open_byte, IsShut, Holds, IsGuarded}
use Rattle.disk_model.proofs.{Bytes.length-written, Bytes.holds_written, Bytes.holds_same, Images.present, Images.wrote_now, Images.synced_now, Moments.started, Moments.during_now, Moments.goes_on}

-- a closed gate guards nothing
guarded_self : (at : ℕ) (bytes : List ℕ) (gate : ℕ) (c : List ℕ) → IsShut gate c → IsGuarded at bytes gate c c
guarded_self at bytes gate c shut = grind arith

-- a write that a crash cuts short while its gate is closed
guarded_torn : (at : ℕ) (bytes : List ℕ) (gate : ℕ) (d c : List ℕ) → IsOutside at (length bytes) gate → IsShut gate d → IsTorn at (length bytes) d c
    → IsGuarded at bytes gate d c
guarded_torn at bytes gate d c apart shut torn = grind arith

-- the gate, torn, of bytes that are whole
guarded_opening : (at : ℕ) (bytes : List ℕ) (gate : ℕ) (d0 d c : List ℕ) → IsOutside at (length bytes) gate → gate < length d0
    → at + length bytes ≤ length d → Holds at bytes d → IsGuarded at bytes gate d0 d → IsTorn gate 1 d c → IsGuarded at bytes gate d0 c
guarded_opening at bytes gate d0 d c apart there long holds before torn = grind (arith, holds_same)

-- after the first write and a sync the bytes there are whole
whole_there : (o : Trace) (at : ℕ) (bytes d : List ℕ) → Reaches o at → MayLeave (noted Synced (noted (Wrote at bytes) o)) d
    → (at + length bytes ≤ length d) × Holds at bytes d
whole_there t at bytes d room may = grind (arith, length-written, holds_written)

-- the gate is there as well
pub gate_reached : (o : Trace) (at : ℕ) (bytes : List ℕ) (gate : ℕ) → Reaches o at → Now o (IsShut gate) → Reaches (noted Synced (noted (Wrote at bytes) o)) gate
gate_reached t at bytes gate room shut = grind (arith, length-written, present)

-- what a read gives after all four calls
pub all_read : (o : Trace) (at : ℕ) (bytes : List ℕ) (gate : ℕ)
    → Sees (noted Synced (noted (Wrote gate (open_byte ∷ [])) (noted Synced (noted (Wrote at bytes) o)))) (written (written (seen o) at bytes) gate (open_byte ∷ []))
all_read t at bytes gate = refl

-- an image from before with the bytes whole and the gate open, or the gate closed
abbrev Guarded : Trace → ℕ → List ℕ → ℕ → List ℕ → Type 0
Guarded o at bytes gate = FromOld o (IsGuarded at bytes gate)

module _ (o : Trace) (at : ℕ) (bytes : List ℕ) (gate : ℕ) (room : Reaches o at) (apart : IsOutside at (length bytes) gate) (shut : Now o (IsShut gate)) where
  -- through the first write
  pub first : {E : Type 0} (o1 : Trace) (r : Result (Unit {0}) E) → IsNoted (Wrote at bytes) (WroteInPart at bytes) r o o1 → During o o1 (Guarded o at bytes gate)
  first o1 r wrote =
      goes_on (Wrote at bytes) (WroteInPart at bytes) r o o o1 (Guarded o at bytes gate)
      (started o (Guarded o at bytes gate) (record { each = λ c may. (c, may, guarded_self at bytes gate c (shut.each c may)) })) wrote
      (record { each = λ c may. let from = wrote_now r o o1 at bytes c wrote may in (from.0, from.1, guarded_torn at bytes gate from.0 c apart (shut.each from.0 from.1) from.2) })

  -- and the first sync
  pub second : {E : Type 0} (o1 o2 : Trace) (r q : Result (Unit {0}) E) → IsNoted (Wrote at bytes) (WroteInPart at bytes) r o o1 → IsNoted Synced Idle q o1 o2 → During o o2 (Guarded o at bytes gate)
  second o1 o2 r q wrote synced =
      let so_far = first o1 r wrote in
      goes_on Synced Idle q o o1 o2 (Guarded o at bytes gate) so_far synced (record { each = λ c may. (during_now o o1 (Guarded o at bytes gate) so_far).each c (synced_now q o1 o2 c synced may) })

  -- once both were done, through the second write
  pub third : {E : Type 0} (o1 o2 o3 : Trace) (r q p : Result (Unit {0}) E) → IsNoted (Wrote at bytes) (WroteInPart at bytes) r o o1 → IsNoted Synced Idle q o1 o2
      → o1 ≡ noted (Wrote at bytes) o → o2 ≡ noted Synced o1 → IsNoted (Wrote gate (open_byte ∷ [])) (WroteInPart gate (open_byte ∷ [])) p o2 o3 → During o o3 (Guarded o at bytes gate)
  third o1 o2 o3 r q p wrote synced done synced_done opened =
      let so_far = second o1 o2 r q wrote synced in
      let all_done : o2 ≡ noted Synced (noted (Wrote at bytes) o) = synced_done ∙ ap (noted Synced) done in
      let opens : (c : List ℕ) → MayLeave o3 c → Guarded o at bytes gate c =
      λ c may.
      let from = wrote_now p o2 o3 gate (open_byte ∷ []) c opened may in
      let before = (during_now o o2 (Guarded o at bytes gate) so_far).each from.0 from.1 in
      let whole = whole_there o at bytes from.0 room (subst (λ x. MayLeave x from.0) all_done from.1) in
      (before.0, before.1, guarded_opening at bytes gate before.0 from.0 c apart (shut.each before.0 before.1).there whole.0 whole.1 before.2 from.2) in
      goes_on (Wrote gate (open_byte ∷ [])) (WroteInPart gate (open_byte ∷ [])) p o o2 o3 (Guarded o at bytes gate) so_far opened (record { each = opens })

  -- and the second sync
  pub fourth : {E : Type 0} (o1 o2 o3 o4 : Trace) (r q p s : Result (Unit {0}) E) → IsNoted (Wrote at bytes) (WroteInPart at bytes) r o o1 → IsNoted Synced Idle q o1 o2
      → o1 ≡ noted (Wrote at bytes) o → o2 ≡ noted Synced o1 → IsNoted (Wrote gate (open_byte ∷ [])) (WroteInPart gate (open_byte ∷ [])) p o2 o3
      → IsNoted Synced Idle s o3 o4 → During o o4 (Guarded o at bytes gate)
  fourth o1 o2 o3 o4 r q p s wrote synced done synced_done opened ended =
      let so_far = third o1 o2 o3 r q p wrote synced done synced_done opened in
      goes_on Synced Idle s o o3 o4 (Guarded o at bytes gate) so_far ended (record { each = λ c may. (during_now o o3 (Guarded o at bytes gate) so_far).each c (synced_now s o3 o4 c ended may) })
