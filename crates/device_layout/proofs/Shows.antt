-- What a read returns of a device.
use Rattle.std.proofs.Common.{arith, ◌≡◌, ℕ, List, Result, IfOk, IfErr, sym, subst}
use Rattle.disk_model.specs.{Traces.Trace, Traces.seen, Calls.Shows}

-- a fact follows from one other
pub shows : (o : Trace) (P Q : List ℕ → Type 0) → ((c : List ℕ) → P c → Q c) → Shows o P → Shows o Q
shows t P Q follows p = follows (seen t) p

-- from three
pub shows₃ : (o : Trace) (P Q R S : List ℕ → Type 0) → ((c : List ℕ) → P c → Q c → R c → S c)
    → Shows o P → Shows o Q → Shows o R → Shows o S
shows₃ t P Q R S follows p q r = follows (seen t) p q r

-- the same device before some calls that changed nothing
pub shows_before : (o p : Trace) (P : List ℕ → Type 0) → p ≡ o → Shows p P → Shows o P
shows_before o p P same s = subst (λ x. Shows x P) same s

-- and after them
pub shows_after : (o p : Trace) (P : List ℕ → Type 0) → p ≡ o → Shows o P → Shows p P
shows_after o p P same s = subst (λ x. Shows x P) (sym same) s

-- a fact of what was answered follows from one other, and from two
pub if_ok : {T E : Type 0} (r : Result T E) (P Q : T → Type 0) → ((x : T) → P x → Q x) → IfOk r P → IfOk r Q
if_ok r P Q follows p = grind arith

pub if_ok₂ : {T E : Type 0} (r : Result T E) (P Q R : T → Type 0) → ((x : T) → P x → Q x → R x) → IfOk r P
    → IfOk r Q → IfOk r R
if_ok₂ r P Q R follows p q = grind arith

-- the same of a refusal
pub if_err : {T E : Type 0} (r : Result T E) (P Q : E → Type 0) → ((e : E) → P e → Q e) → IfErr r P → IfErr r Q
if_err r P Q follows p = grind arith
