use Rattle.std.proofs.Common.{◌+◌, drop, get_or, length, ap, ◌∙◌, arith}
use Rattle.std.proofs.lemmas.List.{drop_all, drop_more}
use Rattle.sheet_law.specs.{complete_windows}
use Rattle.calc_refresh.specs.{lists_of}
use Rattle.group_layout.specs.{cell_of}
use Rattle.group_book.proofs.Listing.{list_begun, list_ended, list_window}
use Rattle.group_book.proofs.changes.add_changes.Goals as goal

pub loop-k-init : goal.loop-k-init
loop-k-init c = grind (arith, list_begun)

pub loop-k-preserved : goal.loop-k-preserved
loop-k-preserved c =
    let s = c.args.sheet.now in
    let old = lists_of c.args.saved.now in
    let windows = complete_windows s.grid s.copies in
    let ks = c.args.unsaved.now in
    let i = c.loop-k.k-index in
    let k = get_or ks i 0 in
    list_window old s.rows (length s.group.calcs) windows c.args.calc c.loop-k.rows.items k (drop (i + 1) ks) c.add_change.new.rows.items
    c.row-new.result c.saved_cell.result
    (grind (arith, drop_more))
    c.requires.calc (c.row-new.ensures.value ∙ ap (cell_of s.rows c.args.calc) c.from.ensures) c.saved_cell.ensures
    (λ within. c.row-new.ensures.there.1 (c.requires.calc, omega (arith, within, c.from.ensures))) c.in_ok-add_change.ensures

pub returns : goal.returns
returns c =
    let s = c.args.sheet.now in
    let old = lists_of c.args.saved.now in
    let windows = complete_windows s.grid s.copies in
    list_ended old s.rows (length s.group.calcs) windows c.args.calc c.loop-k.rows.items
    (grind (arith, drop_all))
