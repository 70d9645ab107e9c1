use Rattle.calc_refresh.specs.{lists_of}
use Rattle.session_audit.specs.Agendas.{row_item}
use Rattle.session_audit.specs.{book_tape, row_ask_of}
use Rattle.session_audit.proofs.Begun.{tapes_begun}
use Rattle.session_audit.proofs.Refreshes.{asked_within}
use Rattle.session_audit.proofs.asking.ask_rows_missing.Goals as goal

pub returns-in-Ok-clause-turns : goal.returns-in-Ok-clause-turns
returns-in-Ok-clause-turns g c = λ turns. asked_within turns c.args.books.now c.add_missing.new.units c.add_missing.ensures.gained

pub returns-in-Err-clause-turns : goal.returns-in-Err-clause-turns
returns-in-Err-clause-turns g c = λ turns. asked_within turns c.args.books.now c.add_missing.new.units c.add_missing.ensures.gained

pub returns-in-Ok-clause-begun : goal.returns-in-Ok-clause-begun
returns-in-Ok-clause-begun g c =
    tapes_begun book_tape row_ask_of row_item _ (lists_of c.args.files.now) c.add_missing.new.units c.add_missing.new.works
    c.add_missing.ensures.over c.add_missing.ensures.found

pub returns-in-Err-clause-begun : goal.returns-in-Err-clause-begun
returns-in-Err-clause-begun g c =
    tapes_begun book_tape row_ask_of row_item _ (lists_of c.args.files.now) c.add_missing.new.units c.add_missing.new.works
    c.add_missing.ensures.over c.add_missing.ensures.found
