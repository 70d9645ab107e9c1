use Rattle.std.proofs.Common.{◌≡◌, ◌∷◌, [], All, OnOk, ap, ◌∙◌, ◌+◌, subst}
use Rattle.archive_file.specs.{Keeps}
use Rattle.commit_log.specs.{row_fields}
use Rattle.archive_file.proofs.FieldLaws.{field_of}
use Rattle.commit_log.proofs.row_reader.check_row.Goals as goal

pub returns-clause-kept : goal.returns-clause-kept
returns-clause-kept g c =
    let a = c.args in
    let first = c.new.ensures in
    let second = c.new-2.ensures in
    let third = c.new-3.ensures in
    let fourth = c.new-4.ensures in
    let fifth = c.new-5.ensures ∙ ap (field_of (a.at + 24) 8) c.is_value_ok.ensures in
    let same : c.new.result ∷ c.new-2.result ∷ c.new-3.result ∷ c.new-4.result ∷ c.new-5.result ∷ [] ≡ row_fields a.tags a.row a.at
    = λ i. first i ∷ second i ∷ third i ∷ fourth i ∷ fifth i ∷ [] in
    subst (λ fields. OnOk c.check.result (All (Keeps g.C.Rest.rest) fields)) same c.check.ensures.kept
