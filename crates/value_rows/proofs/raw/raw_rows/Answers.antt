use Rattle.std.proofs.Common.{ℕ, List, IfErr, subst}
use Rattle.value_rows.specs.{raw_rows, AreRefusedFor}
use Rattle.value_rows.proofs.raw.raw_rows.Goals as goal

pub returns-in-Ok-clause-refused : goal.returns-in-Ok-clause-refused
returns-in-Ok-clause-refused c =
    subst (λ (tags : List (List ℕ)). IfErr c.rows_of_form.result (AreRefusedFor (raw_rows tags c.args.most c.args.bytes.now)))
    c.in-Ok.ensures.names c.rows_of_form.ensures.refused
