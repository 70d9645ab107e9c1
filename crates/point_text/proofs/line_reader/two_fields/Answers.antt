use Rattle.std.proofs.Common.{◌∷◌, nat_eq, arith, sym, ◌∙◌, ap, take}
use Rattle.point_text.proofs.Split.{split_found, split_not_found, split_thrice}
use Rattle.point_text.proofs.line_reader.two_fields.Goals as goal

pub returns-in_err-at-clause-none : goal.returns-in_err-at-clause-none
returns-in_err-at-clause-none c = grind (arith, split_not_found)

pub returns-in-Some-clause-none : goal.returns-in-Some-clause-none
returns-in-Some-clause-none c = grind (arith, split_thrice)

pub returns-in-None-clause-two : goal.returns-in-None-clause-two
returns-in-None-clause-two c =
    let line = c.args.line.now in
    let at = c.in_ok-at.at in
    split_found (λ b. nat_eq b 44) line at (sym c.find_byte.ensures ∙ c.in_ok-at.was)
    ∙ ap (λ l. take at line ∷ l) (split_not_found (λ b. nat_eq b 44) _ (sym c.find_byte-2.ensures ∙ c.in-None.is))
