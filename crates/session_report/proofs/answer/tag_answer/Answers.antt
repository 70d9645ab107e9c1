use Rattle.std.proofs.Common.{◌≡◌, ◌+◌, ◌∙◌, IfOk, Some, ap, sym, subst, string_bytes}
use Rattle.trend_report.specs.{reply_text}
use Rattle.session_report.specs.{tag_asker, answer_of_tag}
use Rattle.session_report.proofs.Answering.{no_tag_answer}
use Rattle.session_report.proofs.Filling.{first_none, first_there, none_of}
use Rattle.session_report.proofs.answer.tag_answer.Goals.{in-Some+in_default-tape, in_default}
use Rattle.session_report.proofs.answer.tag_answer.Goals as goal

pub returns-in-Ask : goal.returns-in-Ask
returns-in-Ask c =
    let tape = c.args.tape.now in
    let e = c.index-tape-place.result in
    let first = first_there tag_asker c.args.reader c.args.row tape c.in-Some.place e (sym c.in-Some.is ∙ c.requires.found) c.index-tape-place.is in
    subst (λ t. IfOk c.answer_line.result (λ text. string_bytes text ≡ reply_text (c.args.reader + 1) c.args.row t))
    (sym (ap answer_of_tag (first ∙ ap (λ x. Some x) c.in-Ask.is))) c.answer_line.ensures

pub returns : goal.returns
returns c =
    let tape = c.args.tape.now in
    let reader = c.args.reader in
    let row = c.args.row in
    elim c.match-found.branch [
      | in-Some+in_default-tape w ↦
          let e = w.index-tape-place.result in
          let first = first_there tag_asker reader row tape w.in-Some.place e (sym w.in-Some.is ∙ c.requires.found) w.index-tape-place.is in
          subst (λ t. IfOk c.reply_text.result (λ text. string_bytes text ≡ reply_text (reader + 1) row t))
          (sym (ap answer_of_tag first ∙ no_tag_answer e w.in_default-tape.not-Ask)) c.reply_text.ensures
      | in_default w ↦
          let none = none_of c.args.found w.in_default.not-Some in
          subst (λ t. IfOk c.reply_text.result (λ text. string_bytes text ≡ reply_text (reader + 1) row t))
          (sym (ap answer_of_tag (first_none tag_asker reader row tape (sym none ∙ c.requires.found)))) c.reply_text.ensures
    ]
