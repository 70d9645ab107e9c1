-- What a crash leaves while a layout with a text is begun.
use Rattle.std.proofs.Common.{◌≡◌, inl, inr, ℕ, zero, suc, ◌+◌, ◌^◌, ◌<◌, ◌≤◌, List, [], ◌∷◌, length, get_or, Result, Ok, Err, OnOk, sym, ap, subst, arith}
use Rattle.std.proofs.lemmas.Bool.{cases_eq}
use Rattle.std.proofs.lemmas.Grind.{same_number_lists}
use Rattle.disk_model.specs.{IsNoted, IsTimed, HasLength, Sees, Shows, Holds, IsBegun, IsClosing, IsGuarded, IsNew, IsOpen, IsShut, closing_calls, layout_calls, open_byte, open_gates, MayLeave, Now, FromOld, IsSettled, During, Wrote}
use Rattle.disk_model.specs.{WroteInPart, Synced, Idle, Trace, noted, seen, written}
use Rattle.disk_model.proofs.Images.{present, wrote_now, synced_now}
use Rattle.disk_model.proofs.Moments.{started, during_now, weaker, in_turn, goes_on}
use Rattle.archive_file.specs.{IsEmpty, IsLeftOrBegun, IsLeftOrNew, TextOpensAt, blocks_at, head_image}
use Rattle.archive_file.proofs.TextHeads.{head_is}

-- ---- the gate of the layout is closed

-- nothing was called
pub left_kept : (o o1 : Trace) → o1 ≡ o → During o o1 (IsLeftOrNew o)
left_kept o o1 same =
    subst (λ x. During o x (IsLeftOrNew o)) (sym same) (started o (IsLeftOrNew o) (record { each = λ c may. inl may }))

-- an image of an empty device is short
short_now : (o : Trace) (c : List ℕ) → IsSettled o → HasLength o 0 → MayLeave o c → length c ≡ 0
short_now o c settled empty may = grind arith

-- an empty device was begun by one byte
pub left_wrote : {E : Type 0} (r : Result (Unit {0}) E) (o o1 o2 : Trace) (n : ℕ) → IsSettled o → o1 ≡ o
    → HasLength o n → n ≤ 0 → IsNoted (Wrote 0 (0 ∷ [])) (WroteInPart 0 (0 ∷ [])) r o1 o2 → During o o2 (IsLeftOrNew o)
left_wrote r o o1 o2 n settled same long none wrote =
    let zero_long : n ≡ 0 = omega arith in
    let empty : HasLength o 0 = subst (HasLength o) zero_long long in
    let short : (c : List ℕ) → MayLeave o2 c → IsLeftOrNew o c =
    λ c may.
    let from = wrote_now r o1 o2 0 (0 ∷ []) c wrote may in
    let old = short_now o from.0 settled empty (subst (λ x. MayLeave x from.0) same from.1) in
    inr (inl (omega (arith, from.2.no_longer, old))) in
    goes_on (Wrote 0 (0 ∷ [])) (WroteInPart 0 (0 ∷ [])) r o o1 o2 (IsLeftOrNew o) (left_kept o o1 same) wrote (record { each = short })

-- and synced
pub left_then_synced : {E : Type 0} (q : Result (Unit {0}) E) (o o2 o3 : Trace) → During o o2 (IsLeftOrNew o)
    → IsNoted Synced Idle q o2 o3 → During o o3 (IsLeftOrNew o)
left_then_synced q o o2 o3 so_far synced =
    goes_on Synced Idle q o o2 o3 (IsLeftOrNew o) so_far synced
    (record { each = λ c may. (during_now o o2 (IsLeftOrNew o) so_far).each c (synced_now q o2 o3 c synced may) })

-- an image in which the gate alone may be torn: it is closed, or all is as it was
left_torn : (o : Trace) (d c : List ℕ) → MayLeave o d → IsClosing 0 1 d c → IsLeftOrNew o c
left_torn o d c may torn = grind (arith, same_image)
  where
    each : (k : ℕ) → get_or c 0 0 ≡ open_byte → get_or d k 0 ≡ get_or c k 0
    each zero opened = grind arith
    each (suc k) opened = sym (torn.same (suc k) (inl (inr (omega arith))))

    same_image : get_or c 0 0 ≡ open_byte → d ≡ c
    same_image opened = same_number_lists d c (sym torn.same_length) (λ k low. each k opened)

-- gates are closed
pub left_closed : (o o1 o2 : Trace) → o1 ≡ o → During o1 o2 (FromOld o1 (IsClosing 0 1)) → During o o2 (IsLeftOrNew o)
left_closed o o1 o2 same closing = grind (arith, weaker, left_torn)

-- how many calls that took, where the device had a gate
closed_of : (c : List ℕ) (n first last : ℕ) → length c ≡ n → 0 < n → last ≡ first + (open_gates 0 1 c + 1) → last ≡ first + closing_calls c
closed_of [] n first last long some calls = absurd (omega (arith, long))
closed_of (b ∷ c) n first last long some calls = omega (arith, calls)

pub closed_counted : {E : Type 0} (r : Result (Unit {0}) E) (o o1 : Trace) (n first mid last : ℕ) → o1 ≡ o → HasLength o n → 0 < n
    → mid ≡ first → OnOk r (Shows o1 (λ c. last ≡ mid + (open_gates 0 1 c + 1))) → OnOk r (Shows o (λ c. last ≡ first + closing_calls c))
closed_counted (Err e) o o1 n first mid last same long some none calls = tt
closed_counted (Ok x) t o1 n first mid last same long some none calls = grind (arith, closed_of)

-- and where it had none
wrote_of : (c : List ℕ) (n first mid after last : ℕ) → length c ≡ n → n ≤ 0 → mid ≡ first → after ≡ mid + 1 → last ≡ after + 1 → last ≡ first + closing_calls c
wrote_of [] n first mid after last long none kept wrote synced = omega (arith, kept, wrote, synced)
wrote_of (b ∷ c) n first mid after last long none kept wrote synced = absurd (omega (arith, long))

pub wrote_counted : {E : Type 0} (r : Result (Unit {0}) E) (o : Trace) (n first mid after last : ℕ) → HasLength o n → n ≤ 0
    → mid ≡ first → after ≡ mid + 1 → IsTimed after last r → OnOk r (Shows o (λ c. last ≡ first + closing_calls c))
wrote_counted (Err e) o n first mid after last long none kept wrote synced = tt
wrote_counted (Ok x) t n first mid after last long none kept wrote synced = grind (arith, wrote_of)

-- then four calls more begin the layout
pub layout_counted : (o : Trace) (first mid last : ℕ) → Shows o (λ c. mid ≡ first + closing_calls c) → last ≡ mid + 4
    → Shows o (λ c. last ≡ first + layout_calls c)
layout_counted o first mid last closed wrote = grind arith

-- ---- the head is written after it

-- the layout is not begun yet
pub not_begun : (letters text : List ℕ) (o o1 : Trace) → During o o1 (IsLeftOrNew o) → During o o1 (IsLeftOrBegun letters text o)
not_begun letters text o o1 closed = weaker o o1 (IsLeftOrNew o) (IsLeftOrBegun letters text o) (λ c is. inl is) closed

module _ (letters text bytes : List ℕ) (four : length letters ≡ 4) (small : length text < 2 ^ 32) (is : bytes ≡ head_image letters text)
    (o o1 : Trace) (closed : During o o1 (IsLeftOrNew o)) where
  -- after the open gate they are a layout
  begun : (d c : List ℕ) → IsGuarded 1 bytes 0 d c → IsOpen 0 c → IsEmpty letters text c
  begun d c guarded opened = head_is letters text c four small opened (subst (λ b. Holds 1 b c) is (guarded.whole opened))

  -- at each moment
  pub head_written : (o2 : Trace) → During o1 o2 (FromOld o1 (IsGuarded 1 bytes 0)) → During o o2 (IsLeftOrBegun letters text o)
  head_written o2 guarded =
      in_turn o o1 o2 (IsLeftOrBegun letters text o) (not_begun letters text o o1 closed)
      (weaker o1 o2 (FromOld o1 (IsGuarded 1 bytes 0)) (IsLeftOrBegun letters text o) either guarded)
    where
      either : (c : List ℕ) → FromOld o1 (IsGuarded 1 bytes 0) c → IsLeftOrBegun letters text o c
      either c from = elim (cases_eq (get_or c 0 0) open_byte) [
        | inl opened ↦ inr (begun from.0 c from.2 opened)
        | inr shut ↦ inl (inr (inr shut))
      ]

  -- in the end the layout is there
  pub layout_begun : (o2 : Trace) → During o1 o2 (FromOld o1 (IsGuarded 1 bytes 0))
      → Sees o2 (written (written (seen o1) 1 bytes) 0 (open_byte ∷ [])) → Shows o2 (IsEmpty letters text)
  layout_begun t guarded sees =
      let left = during_now o1 t (FromOld o1 (IsGuarded 1 bytes 0)) guarded in
      let from = left.each (seen t) (present t) in
      begun from.0 (seen t) from.2 (ap (λ l. get_or l 0 0) sees)

-- after a layout that was begun there is room for the first block
pub layout_ready : (letters text : List ℕ) (o : Trace) → Shows o (IsEmpty letters text) → IsSettled o
    → Now o (IsShut (blocks_at (length text)))
layout_ready letters text t made settled = record {
  each = λ c may. subst (IsShut (blocks_at (length text))) (sym (settled.each c may)) made.shut;
}

-- ---- when an opening ends

-- a device whose layout was finished is not new
pub not_new : (c : List ℕ) → IsBegun c → IsNew c → ⊥
not_new c begun h = grind arith

-- a layout that is there is kept
pub opens_kept : (P Q : List ℕ → Type 0) (o mid : Trace) (before now : ℕ) → length o.calls ≡ before → mid ≡ noted Synced o
    → Shows mid Q → ((c : List ℕ) → Q c → P c → ⊥) → now ≡ before + 1 → TextOpensAt P o now
opens_kept h g o mid before now told is shown apart synced = grind (arith, begun)

-- one that is not there is begun
pub opens_begun : {T E : Type 0} (r : Result T E) (P : List ℕ → Type 0) (o mid : Trace) (before first now : ℕ)
    → length o.calls ≡ before → mid ≡ noted Synced o → Shows o P → first ≡ before + 1
    → OnOk r (Shows mid (λ c. now ≡ first + layout_calls c)) → OnOk r (TextOpensAt P o now)
opens_begun (Err e) P o mid before first now told is shown synced begun = tt
opens_begun (Ok x) P t mid before first now told is shown synced begun = grind (arith, begun)
