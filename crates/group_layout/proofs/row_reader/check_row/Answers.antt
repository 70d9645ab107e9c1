use Rattle.std.proofs.Common.{◌≡◌, ◌∷◌, [], All, OnOk, ap, ◌∙◌, ◌+◌, subst}
use Rattle.archive_file.specs.{Keeps}
use Rattle.group_layout.specs.{row_fields}
use Rattle.archive_file.proofs.FieldLaws.{field_of}
use Rattle.group_layout.proofs.row_reader.check_row.Goals as goal

pub returns-clause-kept : goal.returns-clause-kept
returns-clause-kept g c =
    let a = c.args in
    let first = c.new.ensures ∙ ap (field_of a.at 4) c.is_calc_ok.ensures in
    let second = c.new-2.ensures ∙ ap (field_of (a.at + 4) 4) c.is_window_ok.ensures in
    let third = c.new-3.ensures ∙ ap (field_of (a.at + 8) 1) c.is_kind.ensures in
    let fourth = c.new-4.ensures ∙ ap (field_of (a.at + 9) 8) c.is_value_ok.ensures in
    let same : c.new.result ∷ c.new-2.result ∷ c.new-3.result ∷ c.new-4.result ∷ [] ≡ row_fields a.calcs a.windows a.last a.row a.at
    = λ i. first i ∷ second i ∷ third i ∷ fourth i ∷ [] in
    subst (λ fields. OnOk c.check.result (All (Keeps g.C.Rest.rest) fields)) same c.check.ensures.kept
