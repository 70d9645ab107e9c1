use Rattle.std.proofs.Common.{arith, All, Result, OnOk, subst}
use Rattle.std.proofs.lemmas.Result.{err_from_is_err_and}
use Rattle.archive_file.specs.{BreaksFirst, Keeps}
use Rattle.archive_file.proofs.FieldLaws.{breaks_behind, breaks_within, told_through}
use Rattle.device_layout.specs.{front_fields, name_fields, header_fields}
use Rattle.device_layout.proofs.HeaderFields.{all_kept}
use Rattle.device_layout.proofs.header.check_fields.Goals as goal

pub returns-in_err-check-clause-broken : goal.returns-in_err-check-clause-broken
returns-in_err-check-clause-broken c = λ a byte told.
    let h = c.args.h.now in
    let out = err_from_is_err_and c.from_residual.result c.from_residual.ensures.1 in
    breaks_within h (front_fields h) _ a byte (subst (λ fs. BreaksFirst h fs a byte) c.front_fields.ensures
    (c.in_err-check.ensures.damaged a byte (told_through c.from_residual.result out.0 _ a byte out.1 out.2 told)))

pub returns-in_err-check-2-clause-broken : goal.returns-in_err-check-2-clause-broken
returns-in_err-check-2-clause-broken c = λ a byte told.
    let h = c.args.h.now in
    let sent = c.from_residual-in_err-check-2 in
    let out = err_from_is_err_and sent.result sent.ensures.1 in
    breaks_behind h (front_fields h) _ a byte (subst (All (Keeps h)) c.front_fields.ensures c.in_ok-check.ensures.kept)
    (breaks_within h (name_fields h) _ a byte (subst (λ fs. BreaksFirst h fs a byte) c.name_fields.ensures
    (c.in_err-check-2.ensures.damaged a byte (told_through sent.result out.0 _ a byte out.1 out.2 told))))

-- what follows at Ok
at_ok : {T E : Type 0} (r : Result T E) (P Q : Type 0) → (P → Q) → OnOk r P → OnOk r Q
at_ok r P Q then is = grind arith

pub returns-clause-kept : goal.returns-clause-kept
returns-clause-kept c =
    let h = c.args.h.now in
    let front = subst (All (Keeps h)) c.front_fields.ensures c.in_ok-check.ensures.kept in
    let name = subst (All (Keeps h)) c.name_fields.ensures c.in_ok-check-2.ensures.kept in
    at_ok c.check-3.result (All (Keeps h) c.rest_fields.result) (All (Keeps h) (header_fields h))
    (λ rest. all_kept h front name (subst (All (Keeps h)) c.rest_fields.ensures rest)) c.check-3.ensures.kept

pub returns-clause-broken : goal.returns-clause-broken
returns-clause-broken c = λ a byte told.
    let h = c.args.h.now in
    let front = subst (All (Keeps h)) c.front_fields.ensures c.in_ok-check.ensures.kept in
    let name = subst (All (Keeps h)) c.name_fields.ensures c.in_ok-check-2.ensures.kept in
    breaks_behind h (front_fields h) _ a byte front (breaks_behind h (name_fields h) _ a byte name
    (subst (λ fs. BreaksFirst h fs a byte) c.rest_fields.ensures (c.check-3.ensures.damaged a byte told)))
