-- The faults that a refusal counts.
use Rattle.std.proofs.Common.{◌≡◌, inl, inr, ℕ, ◌^◌, ◌<◌, Err, sym, ap, subst, arith}
use Rattle.std.specs.Prelude.{IsErrOf}
use Rattle.std.proofs.lemmas.Bool.{cases_lt}
use Rattle.disk_model.specs.{CountsFault}

-- an error is the one that a refusal reports
error_is : {T E : Type 0} (why fault : E) → IsErrOf {T = T} (Err why) fault → why ≡ fault
error_is why fault is = cc (is)

-- the faults of a refusal, whatever would have been made
pub counts_of : {T U E : Type 0} (why fault : E) (before now : ℕ) → CountsFault {T = T} (Err why) fault before now
    → CountsFault {T = U} (Err why) fault before now
counts_of why fault before now counts = record {
  later = counts.later;
  passed = tt;
  failed = λ is. counts.failed (ap Err (error_is why fault is));
  refused = λ other. counts.refused (λ is. other (ap Err (error_is why fault is)));
}

-- the faults are counted from the beginning on
pub counted_since : {T U E : Type 0} (why fault : E) (before now after : ℕ) → now ≡ before → before < 2 ^ 64
    → (now < 2 ^ 64 → CountsFault {T = T} (Err why) fault now after) → CountsFault {T = U} (Err why) fault before after
counted_since {U = U} why fault before now after same small counts =
    subst (λ n. CountsFault {T = U} (Err why) fault n after) same
    (counts_of why fault now after (counts (subst (λ n. n < 2 ^ 64) (sym same) small)))

-- and a count stays in its type
pub stays_small : {T E : Type 0} (why fault : E) (before now : ℕ) → before < 2 ^ 64
    → CountsFault {T = T} (Err why) fault before now → now < 2 ^ 64
stays_small why fault before now small counts = elim (cases_lt now (2 ^ 64)) [
  | inl below ↦ below
  | inr above ↦
      let kept = counts.refused (λ is. let rose = counts.failed is in omega (arith, rose, above, small)) in omega (arith, kept, small)
]
