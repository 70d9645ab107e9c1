-- What holds of the answer of a last call.
use Rattle.std.proofs.Common.{Result, Ok, Err, OnOk, IfErr}

module _ {X E : Type 0} where
  -- what holds anyway holds at Ok
  pub at_ok : {P : Type 0} (r : Result X E) → P → OnOk r P
  at_ok (Ok x) p = p
  at_ok (Err e) p = tt

  -- what follows of an error
  pub err_weaker : {P Q : E → Type 0} (r : Result X E) → ((e : E) → P e → Q e) → IfErr r P → IfErr r Q
  err_weaker (Ok x) follows p = tt
  err_weaker (Err e) follows p = follows e p
