use Rattle.std.proofs.Common.{drop, length}
use Rattle.sheet_law.specs.{complete_windows}
use Rattle.calc_refresh.specs.{lists_of}
use Rattle.group_book.proofs.Listing.{ListedBefore}
use Rattle.group_book.proofs.changes.add_changes.Given as goal

abbrev pub invariant-loop-k : goal.invariant-loop-k
invariant-loop-k l = ListedBefore (lists_of l.saved) l.sheet.rows (length l.sheet.group.calcs)
    (complete_windows l.sheet.grid l.sheet.copies) l.calc (drop l.k-index l.unsaved) l.rows.items
