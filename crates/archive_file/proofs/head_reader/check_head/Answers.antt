use Rattle.std.proofs.Common.{◌≡◌, ◌+◌, ◌∷◌, [], true, All, OnOk, Result, arith, ap, ◌∙◌, subst}
use Rattle.archive_file.specs.{Keeps, head_fields}
use Rattle.archive_file.proofs.FieldLaws.{field_of}
use Rattle.archive_file.proofs.head_reader.check_head.Goals as goal

pub returns-clause-kept : goal.returns-clause-kept
returns-clause-kept g c =
    let first = c.letter_field.ensures in
    let second = c.letter_field-2.ensures in
    let third = c.letter_field-3.ensures in
    let fourth = c.letter_field-4.ensures in
    let size = c.new.ensures in
    let text = c.new-2.ensures ∙ ap (λ n. field_of 9 (n + 1) true) c.requires.size in
    let same : c.letter_field.result ∷ c.letter_field-2.result ∷ c.letter_field-3.result ∷ c.letter_field-4.result ∷ c.new.result
    ∷ c.new-2.result ∷ [] ≡ head_fields c.args.letters g.C.Rest.rest
    = λ i. first i ∷ second i ∷ third i ∷ fourth i ∷ size i ∷ text i ∷ [] in
    subst (λ fields. OnOk c.check.result (All (Keeps g.C.Rest.rest) fields)) same c.check.ensures.kept

-- what follows at Ok
at_ok : {T E : Type 0} (r : Result T E) (P Q : Type 0) → (P → Q) → OnOk r P → OnOk r Q
at_ok r P Q then is = grind arith

pub returns-clause-long : goal.returns-clause-long
returns-clause-long g c = grind (arith, at_ok, field_of)
