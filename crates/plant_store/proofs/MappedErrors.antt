-- Results whose error was turned into another one.
use Rattle.std.proofs.Common.{◌≡◌, Result, Ok, Err, subst, sym}
use Rattle.std.specs.Result.{IfErr, IfOk, IsErrAnd, MatchResult}
use Rattle.std.proofs.lemmas.Result.{err_from_is_err_and}

-- what holds of a value holds of it still
pub still_ok : {T E F : Type 0} (Why : E → F → Type 0) (P Q : T → Type 0) (was : Result T E) (is : Result T F)
    → MatchResult was (λ x. is ≡ Ok x) (λ e. IsErrAnd is (Why e)) → ((x : T) → P x → Q x) → IfOk was P → IfOk is Q
still_ok Why P Q (Ok x) is cases follows held = subst (λ r. IfOk r Q) (sym cases) (follows x held)
still_ok Why P Q (Err e) is cases follows held = subst (λ r. IfOk r Q) (sym (err_from_is_err_and is cases).1) tt

-- and what holds of each new error holds of the error
pub new_error : {T E F : Type 0} (Why : E → F → Type 0) (P : F → Type 0) (was : Result T E) (is : Result T F)
    → MatchResult was (λ x. is ≡ Ok x) (λ e. IsErrAnd is (Why e)) → ((e : E) (y : F) → Why e y → P y) → IfErr is P
new_error Why P (Ok x) is cases follows = subst (λ r. IfErr r P) (sym cases) tt
new_error Why P (Err e) is cases follows =
    let err = err_from_is_err_and is cases in subst (λ r. IfErr r P) (sym err.1) (follows e err.0 err.2)
