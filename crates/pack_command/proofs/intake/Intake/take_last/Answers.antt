use Rattle.std.proofs.Common.{◌<◌, [], false, length, sym, subst, arith}
use Rattle.std.proofs.lemmas.Bool.Decides.{nat_tests}
use Rattle.std.proofs.lemmas.List.{nil_from_length}
use Rattle.pack_command.specs.{IsNextRow}
use Rattle.pack_command.proofs.Coming.{come_end, next_last}
use Rattle.pack_command.proofs.intake.Intake.take_last.Goals as goal

pub returns-then-is_empty-clause-come : goal.returns-then-is_empty-clause-come
returns-then-is_empty-clause-come g c = grind (arith, nat_tests, come_end, nil_from_length)

pub returns-clause-come : goal.returns-clause-come
returns-clause-come g c = λ o bytes come.
    let self = c.args.self.now in
    let some : 0 < length c.args.line.now = grind (arith, nat_tests) in
    c.take_row.ensures.come false o bytes c.args.line.now [] (come_end o bytes c.args.line.now self.core self.rows self.standing come)
    (subst (IsNextRow false c.args.line.now []) (sym c.point_of_line.ensures) (next_last c.args.line.now c.requires.begun some))
