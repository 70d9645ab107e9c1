use Rattle.std.proofs.Common.{ℕ, List, IfErr, subst}
use Rattle.value_rows.specs.{query_rows, AreRefusedFor}
use Rattle.value_rows.proofs.asked.query_rows.Goals as goal

pub returns-in-Ok-clause-refused : goal.returns-in-Ok-clause-refused
returns-in-Ok-clause-refused c =
    subst (λ (tags : List (List ℕ)). IfErr c.rows_of_text.result (AreRefusedFor (query_rows tags c.args.groups.now c.args.most c.args.bytes.now)))
    c.in-Ok.ensures.names c.rows_of_text.ensures.refused
