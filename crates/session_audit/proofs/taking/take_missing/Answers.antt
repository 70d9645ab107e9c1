use Rattle.std.proofs.Common.{◌<◌, ◌∙◌, [], ap, arith, get_or, length, subst, sym}
use Rattle.std.proofs.lemmas.Option.{get_or_from_slice_get, slice_get_within}
use Rattle.calc_refresh.specs.{lists_of}
use Rattle.tag_cell.specs.{taken, ToldCell}
use Rattle.session_audit.specs.Agendas.{phase_item}
use Rattle.session_audit.specs.{IsTakeRefusal, IsTakeEntry, cell_tape, ask_of, take_of, LacksRow}
use Rattle.session_audit.proofs.Begun.{tapes_begun}
use Rattle.session_audit.proofs.EntryKinds.{longer_found, taken_asks}
use Rattle.session_audit.proofs.FullTapes.{rows_lacking}
use Rattle.session_audit.proofs.Refused.{take_refused}
use Rattle.session_audit.proofs.taking.take_missing.Goals as goal

pub returns-in-Ok-clause-begun : goal.returns-in-Ok-clause-begun
returns-in-Ok-clause-begun g c =
    tapes_begun cell_tape take_of (phase_item c.args.earlier) _ (lists_of c.args.files.now) c.add_missing.new.units
    c.add_missing.new.works c.add_missing.ensures.over c.add_missing.ensures.found

pub returns-in-Err-clause-begun : goal.returns-in-Err-clause-begun
returns-in-Err-clause-begun g c =
    tapes_begun cell_tape take_of (phase_item c.args.earlier) _ (lists_of c.args.files.now) c.add_missing.new.units
    c.add_missing.new.works c.add_missing.ensures.over c.add_missing.ensures.found

pub returns-in-Ok-clause-asks : goal.returns-in-Ok-clause-asks
returns-in-Ok-clause-asks g c = λ asked.
    longer_found ask_of IsTakeEntry c.args.cells.now c.add_missing.new.units asked taken_asks c.add_missing.ensures.gained

pub returns-in-Err-clause-asks : goal.returns-in-Err-clause-asks
returns-in-Err-clause-asks g c = λ asked.
    longer_found ask_of IsTakeEntry c.args.cells.now c.add_missing.new.units asked taken_asks c.add_missing.ensures.gained

pub returns-in-Err-clause-refused : goal.returns-in-Err-clause-refused
returns-in-Err-clause-refused g c =
    let files = lists_of c.args.files.now in
    let cells = c.add_missing.new.units in
    let rooms = c.args.rooms.now in
    let tag = c.in-Err.tag in
    let stop = c.in-Err.ensures.refused in
    let over = c.add_missing.ensures.over in
    let within = slice_get_within cells tag stop.one stop.there in
    let as_many = c.requires.rooms ∙ sym c.add_missing.ensures.gained.as_many in
    let lack = rows_lacking c.args.earlier (length cells) stop.worker rooms files cells c.add_missing.new.works
    (record { items = []; at = [] }) tag stop.one over c.add_missing.ensures.found
    (subst (λ n. stop.worker < n) over.as_many stop.working) as_many c.requires.counted within
    (stop.due (record { items = []; at = [] })) in
    let here = get_or_from_slice_get cells tag stop.one stop.one stop.there in
    let rows = get_or rooms tag 0 in
    subst (IsTakeRefusal (phase_item c.args.earlier) files cells) (sym c.take_status.ensures)
    (take_refused (phase_item c.args.earlier) files cells tag c.takes_on-takes.result rows stop.one c.in-Err.no stop.there stop.refused
    (c.takes_on-takes.ensures stop.one ∙ ap (λ (x : ToldCell _). length (taken x.tape)) here)
    (c.requires.counted tag (omega (arith, within, as_many)))
    (subst (λ (x : ToldCell _). length (taken x.tape) < rows) here lack.0)
    (subst (λ (x : ToldCell _). LacksRow take_of (phase_item c.args.earlier) files tag x.tape) here lack.1))

pub takes_on-takes-requires : goal.takes_on-takes-requires
takes_on-takes-requires g c =
    let stop = c.in-Err.ensures.refused in
    record { known = slice_get_within c.add_missing.new.units c.in-Err.tag stop.one stop.there }

pub bounds-rooms-tag : goal.bounds-rooms-tag
bounds-rooms-tag g c =
    let stop = c.in-Err.ensures.refused in
    let within = slice_get_within c.add_missing.new.units c.in-Err.tag stop.one stop.there in
    omega (arith, within, c.requires.rooms, c.add_missing.ensures.gained.as_many)
