use Rattle.std.proofs.Common.{◌≤◌, ◌∙◌, length, nat_eq, true, refl, sym, subst, lit<, eqb-true}
use Rattle.archive_file.specs.{number_bytes, Keeps, Spells}
use Rattle.archive_file.proofs.FieldLaws.{field_of}
use Rattle.archive_file.proofs.Windows.{then_spelled}
use Rattle.commit_log.proofs.block_reader.read_front.Goals as goal

pub returns-clause-spelled : goal.returns-clause-spelled
returns-clause-spelled g c =
    let s = g.C.Rest.rest in
    let first : Keeps s (field_of 1 8 (nat_eq c.long_at.result c.args.number)) =
    subst (Keeps s) c.new.ensures (c.in_ok-check.ensures.kept 0 (field_of 0 0 true) (lit< tt)) in
    let second = subst (Keeps s) c.new-2.ensures (c.in_ok-check.ensures.kept 1 (field_of 0 0 true) (lit< tt)) in
    let count : 13 ≤ length s = second.there in
    then_spelled s 1 9 9 13 (number_bytes 8 c.args.number) (number_bytes 4 c.short_at-count.result)
    (subst (λ n. Spells s 1 (number_bytes 8 n) 9) (sym c.long_at.ensures.value ∙ eqb-true _ _ first.kept) (c.long_at.ensures.spelled first.there)) refl
    (subst (λ n. Spells s 9 (number_bytes 4 n) 13) (sym c.short_at-count.ensures.value) (c.short_at-count.ensures.spelled count))
