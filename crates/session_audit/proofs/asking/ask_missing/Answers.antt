use Rattle.calc_refresh.specs.{lists_of}
use Rattle.session_audit.specs.Agendas.{ask_item, phase_item}
use Rattle.session_audit.specs.{IsAskEntry, cell_tape, ask_of, take_of}
use Rattle.session_audit.proofs.Begun.{tapes_begun}
use Rattle.session_audit.proofs.EntryKinds.{asked_takes, longer_shown}
use Rattle.session_audit.proofs.asking.ask_missing.Goals as goal

pub returns-in-Ok-clause-takes : goal.returns-in-Ok-clause-takes
returns-in-Ok-clause-takes g c = λ earlier taken.
    longer_shown take_of (phase_item earlier) IsAskEntry taken c.args.cells.now c.add_missing.new.units asked_takes c.add_missing.ensures.gained

pub returns-in-Err-clause-takes : goal.returns-in-Err-clause-takes
returns-in-Err-clause-takes g c = λ earlier taken.
    longer_shown take_of (phase_item earlier) IsAskEntry taken c.args.cells.now c.add_missing.new.units asked_takes c.add_missing.ensures.gained

pub returns-in-Ok-clause-begun : goal.returns-in-Ok-clause-begun
returns-in-Ok-clause-begun g c =
    tapes_begun cell_tape ask_of ask_item _ (lists_of c.args.files.now) c.add_missing.new.units c.add_missing.new.works
    c.add_missing.ensures.over c.add_missing.ensures.found

pub returns-in-Err-clause-begun : goal.returns-in-Err-clause-begun
returns-in-Err-clause-begun g c =
    tapes_begun cell_tape ask_of ask_item _ (lists_of c.args.files.now) c.add_missing.new.units c.add_missing.new.works
    c.add_missing.ensures.over c.add_missing.ensures.found
