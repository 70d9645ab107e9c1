-- How what a crash at any moment might have left changes from call to call.
use Rattle.std.proofs.Common.{◌≡◌, ◌⊎◌, inl, inr, ⊎_elim, ℕ, ◌≤◌, List, [], ◌∷◌, ◌++◌, length, Result, refl, sym, ◌∙◌, ap, subst, arith, append_assoc, length-append}
use Rattle.disk_model.specs.{DeviceCall, Idle, Trace, noted, moment, IsImage, MayLeave, Now, WasImageSince, LeftSince, ComesAfter, During, IsNoted}
use Rattle.disk_model.proofs.Images.{cases_noted}

-- an image now is one since any moment
present_calls : (first : List ℕ) (es : List DeviceCall) (m : ℕ) (c : List ℕ) → IsImage first es c → WasImageSince first es m c
present_calls first [] m c image = image
present_calls first (e ∷ es) m c image = inl image

pub counts_now : (o : Trace) (m : ℕ) (c : List ℕ) → MayLeave o c → LeftSince o m c
counts_now t m c may = record { image = present_calls t.first t.calls m c may.image }

-- since this moment there is no other
pub only_calls : (first : List ℕ) (es : List DeviceCall) (m : ℕ) (c : List ℕ) → length es ≤ m → WasImageSince first es m c → IsImage first es c
only_calls first [] m c le was = was
only_calls first (e ∷ es) m c le (inl now) = now
only_calls first (e ∷ es) m c le (inr before) = absurd (omega (arith, le, before.0))

pub only_now : (o : Trace) (c : List ℕ) → LeftSince o (moment o) c → MayLeave o c
only_now t c left = record { image = only_calls t.first t.calls (length t.calls) c (omega arith) left.image }

-- nor since any moment that is not before the clock, which counts the calls that the device records
pub only_since : (o : Trace) (ticks m : ℕ) (c : List ℕ) → length o.calls ≡ ticks → ticks ≤ m → LeftSince o m c → MayLeave o c
only_since t ticks m c told le left = record { image = only_calls t.first t.calls m c (omega (arith, told, le)) left.image }

-- a device comes after itself
pub after_self : (o : Trace) → ComesAfter o o
after_self t = (refl, [], refl)

-- it comes after what it came after before one call more
after_one : (start old : Trace) (e : DeviceCall) → ComesAfter start old → ComesAfter start (noted e old)
after_one s t e later = (later.0, e ∷ later.1, ap (λ es. e ∷ es) later.2)

-- and it comes after what the earlier one came after
pub after_both : (a b c : Trace) → ComesAfter a b → ComesAfter b c → ComesAfter a c
after_both s t u ab bc =
    (bc.0 ∙ ab.0, bc.1 ++ ab.1, bc.2 ∙ ap (λ es. bc.1 ++ es) ab.2 ∙ sym (append_assoc bc.1 ab.1 s.calls))

-- an image since a moment before some calls is one since these calls, or one before them
parted_calls : (first : List ℕ) (es before : List DeviceCall) (m : ℕ) (c : List ℕ) → WasImageSince first (es ++ before) m c
    → WasImageSince first (es ++ before) (length before) c ⊎ WasImageSince first before m c
parted_calls first [] before m c was = inr was
parted_calls first (e ∷ es) before m c (inl now) = inl (inl now)
parted_calls first (e ∷ es) before m c (inr was) =
    ⊎_elim (λ since. inl (inr (omega (arith, length-append es before), since))) (λ earlier. inr earlier) (parted_calls first es before m c was.1)

-- the same of a device that comes after another
pub parted : (b c : Trace) (m : ℕ) (x : List ℕ) → ComesAfter b c → LeftSince c m x → LeftSince c (moment b) x ⊎ LeftSince b m x
parted t u m x later left = grind (arith, parted_calls)

-- before the first call
pub started : (o : Trace) (P : List ℕ → Type 0) → Now o P → During o o P
started o P now = record { later = after_self o; each = λ c left. now.each c (only_now o c left) }

-- what holds of each image now
pub during_now : (old new : Trace) (P : List ℕ → Type 0) → During old new P → Now new P
during_now old new P during = record { each = λ c may. during.each c (counts_now new (moment old) c may) }

-- a weaker fact
pub weaker : (old new : Trace) (P Q : List ℕ → Type 0) → ((c : List ℕ) → P c → Q c) → During old new P → During old new Q
weaker old new P Q follows during = record { later = during.later; each = λ c left. follows c (during.each c left) }

-- two runs, one after the other
pub in_turn : (a b c : Trace) (P : List ℕ → Type 0) → During a b P → During b c P → During a c P
in_turn a b c P ab bc = record {
  later = after_both a b c ab.later bc.later;
  each = λ x left. ⊎_elim (bc.each x) (ab.each x) (parted b c (moment a) x bc.later left);
}

-- one call more, after which each image has P
one_more : (start old : Trace) (e : DeviceCall) (P : List ℕ → Type 0) → During start old P → Now (noted e old) P → During start (noted e old) P
one_more start t e P so_far now = grind (arith, after_one)

-- one call, whatever it answered
pub goes_on : {T E : Type 0} (whole part : DeviceCall) (r : Result T E) (start old new : Trace) (P : List ℕ → Type 0) → During start old P
    → IsNoted whole part r old new → Now new P → During start new P
goes_on whole part r start old new P so_far is now =
    let step : (e : DeviceCall) → new ≡ noted e old → During start new P =
    λ e same. subst (λ o. During start o P) (sym same) (one_more start old e P so_far (subst (λ o. Now o P) same now)) in
    elim (cases_noted whole part r old new is) [
      | inl done ↦ step whole done
      | inr (inl failed) ↦ step part failed
      | inr (inr (inl idle)) ↦ step Idle idle
      | inr (inr (inr same)) ↦ subst (λ o. During start o P) (sym same) so_far
    ]
