use Rattle.std.proofs.Common.{◌∙◌, Some, ap, sym}
use Rattle.session_report.specs.{group_asker, answer_of_group}
use Rattle.session_report.proofs.Answering.{no_group_answer}
use Rattle.session_report.proofs.Filling.{first_none, first_there, none_of}
use Rattle.session_report.proofs.answer.group_answer.Goals as goal

pub returns-in-Ask : goal.returns-in-Ask
returns-in-Ask c =
    let tape = c.args.tape.now in
    let e = c.index-tape-place.result in
    let first = first_there group_asker c.args.reader c.args.row tape c.in-Some.place e (sym c.in-Some.is ∙ c.requires.found) c.index-tape-place.is in
    sym (ap answer_of_group (first ∙ ap (λ x. Some x) c.in-Ask.is))

pub returns-in_default-tape : goal.returns-in_default-tape
returns-in_default-tape c =
    let tape = c.args.tape.now in
    let e = c.index-tape-place.result in
    let first = first_there group_asker c.args.reader c.args.row tape c.in-Some.place e (sym c.in-Some.is ∙ c.requires.found) c.index-tape-place.is in
    sym (ap answer_of_group first ∙ no_group_answer e c.in_default-tape.not-Ask)

pub returns-in_default : goal.returns-in_default
returns-in_default c =
    let none = none_of c.args.found c.in_default.not-Some in
    sym (ap answer_of_group (first_none group_asker c.args.reader c.args.row c.args.tape.now (sym none ∙ c.requires.found)))
