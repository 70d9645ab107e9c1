use Rattle.std.proofs.Common.{length}
use Rattle.sheet_law.specs.{complete_windows}
use Rattle.calc_refresh.specs.{lists_of}
use Rattle.group_book.specs.{ListedUpTo}
use Rattle.group_book.proofs.changes.changes.Given as goal

abbrev pub invariant-loop-calc : goal.invariant-loop-calc
invariant-loop-calc l = ListedUpTo (lists_of l.saved) l.sheet.rows (length l.sheet.group.calcs)
    (complete_windows l.sheet.grid l.sheet.copies) l.calc 0 l.rows.items
