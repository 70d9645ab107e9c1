use Rattle.std.proofs.Common.{◌+◌, is_some, ap, sym, subst, length, get_or}
use Rattle.std.proofs.lemmas.List.{get_or-set_same}
use Rattle.session_audit.specs.{IsCaughtUp}
use Rattle.session_audit.proofs.AddedRows.{added_entry, added_shows, row_due, row_known, row_missing, row_stopped}
use Rattle.session_audit.proofs.RowTurns.{all_known, caught_more, found_turn, row_within}
use Rattle.session_audit.proofs.adding.add_row.Goals as goal

pub missing-requires : goal.missing-requires
missing-requires g c =
    row_within (g.A.Adding.item_of c.args.how.now) (length c.args.units.now) c.args.worker c.args.place c.args.rows.now c.args.works.now
    c.index-works-worker.result c.requires.over c.requires.within

pub add-requires-clause-due : goal.add-requires-clause-due
add-requires-clause-due g c =
    ap is_some (row_due (g.A.Adding.item_of c.args.how.now) (length c.args.units.now) c.args.worker c.args.place c.in-Some.unit
    c.args.rows.now c.args.works.now c.index-works-worker.result c.requires.over c.requires.within c.in-Some.ensures.missing
    c.index-rows-place.result c.index-rows-place.is)

pub returns-in-Err-clause-refused : goal.returns-in-Err-clause-refused
returns-in-Err-clause-refused g c =
    let item_of = g.A.Adding.item_of c.args.how.now in
    let many = length c.args.units.now in
    let works = c.args.works.now in
    let d = c.index-works-worker.result in
    let lack = c.in-Some.ensures.missing in
    row_stopped item_of many c.args.worker c.args.place c.in-Some.unit c.args.rows.now works d c.requires.over c.requires.within lack
    g.A.Adding.refuses c.args.units.now c.add.new.unit c.in-Err.no c.requires.caught
    (row_known item_of many c.args.worker c.args.place c.in-Some.unit c.args.rows.now works d c.requires.over c.requires.within lack)
    (subst (λ u. g.A.Adding.refuses u c.in-Err.no) (sym c.in-Err.ensures.unchanged) c.in-Err.ensures.refused)

pub returns-clause-caught : goal.returns-clause-caught
returns-clause-caught g c = λ p.
    let item_of = g.A.Adding.item_of c.args.how.now in
    let many = length c.args.units.now in
    let works = c.args.works.now in
    let lack = c.in-Some.ensures.missing in
    subst (IsCaughtUp (c.args.place + 1)) (sym (get_or-set_same works c.args.worker c.advance.new.self p c.requires.over.there))
    (caught_more c.args.worker c.args.place c.in-Some.unit lack.due.seen works (get_or works c.args.worker c.index-works-worker-2.result)
    c.advance.new.self (row_missing item_of many c.args.worker c.args.place c.in-Some.unit c.args.rows.now works
    c.index-works-worker.result c.requires.over c.requires.within lack c.index-works-worker-2.result c.requires.caught)
    c.advance.ensures)

pub returns-clause-found : goal.returns-clause-found
returns-clause-found g c =
    let item_of = g.A.Adding.item_of c.args.how.now in
    let many = length c.args.units.now in
    let works = c.args.works.now in
    let d = c.index-works-worker.result in
    let lack = c.in-Some.ensures.missing in
    let added = c.in_default-add.ensures.added in
    let known = row_known item_of many c.args.worker c.args.place c.in-Some.unit c.args.rows.now works d c.requires.over c.requires.within lack in
    let due = row_due item_of many c.args.worker c.args.place c.in-Some.unit c.args.rows.now works d c.requires.over c.requires.within lack
    c.index-rows-place.result c.index-rows-place.is in
    found_turn g.A.Unit.Taped.tape_of g.A.Adding.shows c.args.worker c.args.place c.in-Some.unit lack.due.seen added.entry c.args.units.now _ works
    (get_or works c.args.worker c.index-works-worker-2.result) c.advance.new.self
    (row_missing item_of many c.args.worker c.args.place c.in-Some.unit c.args.rows.now works d c.requires.over c.requires.within lack
    c.index-works-worker-2.result c.requires.caught) c.advance.ensures
    (added_shows g.A.Unit.Taped.tape_of g.A.Adding.shows c.args.worker c.in-Some.unit lack.due.seen _ c.add.new.unit _ added due)
    (added_entry g.A.Unit.Taped.tape_of g.A.Adding.shows c.args.worker c.in-Some.unit c.args.units.now c.index-units-unit.result c.add.new.unit _ added known)
    (all_known item_of many c.args.worker c.in-Some.unit c.args.rows.now works c.requires.over known) c.requires.found
