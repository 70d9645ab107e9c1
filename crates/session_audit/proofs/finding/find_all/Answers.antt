use Rattle.std.proofs.Common.{subst}
use Rattle.session_audit.specs.{AreFound, IsDifference, due_of}
use Rattle.session_audit.proofs.FindingTurns.{found_next_tag, found_none, known_next, mismatch_here, rows_after, unfound_next}
use Rattle.session_audit.proofs.finding.find_all.Goals as goal

pub loop-unit-init : goal.loop-unit-init
loop-unit-init g c = found_none g.T.Taped.tape_of g.K.Kind.shows c.args.units.now c.args.works.now c.requires.unfound

pub find-requires-clause-known : goal.find-requires-clause-known
find-requires-clause-known g c =
    known_next g.T.Taped.tape_of g.K.Kind.shows c.loop-unit.unit c.args.units.now c.args.works.now c.loop-unit.works c.loop-unit.invariant c.loop-unit-test.true

pub find-requires-clause-unfound : goal.find-requires-clause-unfound
find-requires-clause-unfound g c =
    unfound_next g.T.Taped.tape_of g.K.Kind.shows c.loop-unit.unit c.args.units.now c.args.works.now c.loop-unit.works c.loop-unit.invariant c.loop-unit-test.true

pub returns-in-Err-clause-same_rows : goal.returns-in-Err-clause-same_rows
returns-in-Err-clause-same_rows g c =
    rows_after g.T.Taped.tape_of g.K.Kind.shows c.loop-unit.unit c.args.units.now c.args.works.now c.loop-unit.works c.find.new.works
    c.loop-unit.invariant c.in-Err.ensures.further

pub returns-in-Err-clause-differs : goal.returns-in-Err-clause-differs
returns-in-Err-clause-differs g c =
    let cells = c.args.units.now in
    let cell = c.index-units-unit.result in
    mismatch_here g.T.Taped.tape_of g.K.Kind.shows c.loop-unit.unit c.in-Err.differs.place c.in-Err.differs.kept c.in-Err.differs.told cells cell
    c.args.works.now c.loop-unit.works c.loop-unit-test.true
    c.index-units-unit.is c.loop-unit.invariant
    (subst (λ l. IsDifference g.K.Kind.shows (due_of c.loop-unit.works c.loop-unit.unit) l c.in-Err.differs.place c.in-Err.differs.kept
    c.in-Err.differs.told) c.tape.ensures c.in-Err.ensures.differs)

pub loop-unit-preserved : goal.loop-unit-preserved
loop-unit-preserved g c =
    let cells = c.args.units.now in
    let cell = c.index-units-unit.result in
    found_next_tag g.T.Taped.tape_of g.K.Kind.shows c.loop-unit.unit cells cell c.args.works.now c.loop-unit.works c.find.new.works
    c.loop-unit-test.true c.index-units-unit.is
    c.loop-unit.invariant c.in_default.ensures.further
    (subst (λ l. AreFound g.K.Kind.shows c.loop-unit.unit l c.find.new.works) c.tape.ensures c.in_default.ensures.found)
