-- What a read returns of a settled device, before some calls and after them.
use Rattle.disk_model.specs.{Calls.Shows, Calls.Reaches, Calls.Sees, Traces.Trace, Traces.seen, Traces.written, Images.Now, Images.FromOld, Images.IsSettled, Moments.During, Gates.open_byte, Gates.IsOpen}
use Rattle.std.proofs.Common.{ℕ, List, [], ◌∷◌, sym, subst, arith}
use Rattle.disk_model.proofs.{Bytes.length-written, Images.present, Moments.weaker, Moments.during_now}
use Rattle.crash_recovery.proofs.Pieces.{byte_written}

-- so each image has it
pub now_shown : (o : Trace) (P : List ℕ → Type 0) → IsSettled o → Shows o P → Now o P
now_shown t P settled shown = record { each = λ c may. subst P (sym (settled.each c may)) shown }

-- and the other way round
pub shown_now : (o : Trace) (P : List ℕ → Type 0) → Now o P → Shows o P
shown_now t P now = now.each (seen t) (present t)

-- one fact from another, and two as one
pub shown_so : (o : Trace) (P Q : List ℕ → Type 0) → ((c : List ℕ) → P c → Q c) → Shows o P → Shows o Q
shown_so t P Q so shown = so (seen t) shown

-- two as one
pub shown_both : (o : Trace) (P Q : List ℕ → Type 0) → Shows o P → Shows o Q → Shows o (λ c. P c × Q c)
shown_both t P Q p q = (p, q)

-- what each image of the calls has, from what a read gave before
pub during_from : (o new : Trace) (R : List ℕ → List ℕ → Type 0) (Q P : List ℕ → Type 0) → IsSettled o
    → Shows o Q → ((a b : List ℕ) → Q a → R a b → P b) → During o new (FromOld o R) → During o new P
during_from o new R Q P settled shown step during = grind (arith, weaker)

-- and what a read gives after them
pub shown_from : (o new : Trace) (R : List ℕ → List ℕ → Type 0) (Q S P : List ℕ → Type 0)
    → IsSettled o → Shows o Q
    → Shows new S → ((a b : List ℕ) → Q a → R a b → S b → P b) → During o new (FromOld o R) → Shows new P
shown_from t u R Q S P settled shown after step during =
    let from = (during_now t u (FromOld t R) during).each (seen u) (present u) in
    step (seen t) (seen u) shown (subst (λ d. R d (seen u)) (settled.each from.0 from.1) from.2) after

-- a gate that was opened after bytes were written reads open
pub opened_after : (o new : Trace) (P : List ℕ → Type 0) (at : ℕ) (bytes : List ℕ) (gate : ℕ) → Reaches o at
    → Reaches o gate → During o new P → Sees new (written (written (seen o) at bytes) gate (open_byte ∷ []))
    → Shows new (IsOpen gate)
opened_after t u P at bytes gate room there during sees = grind (arith, length-written, byte_written)
