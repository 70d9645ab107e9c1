use Rattle.std.proofs.Common.{arith}
use Rattle.group_book.proofs.Columns.{changes_below, changes_cover, same_values}
use Rattle.group_book.proofs.saved_rows.bring_rows.Goals as goal

pub bring_row-requires-clause-within : goal.bring_row-requires-clause-within
bring_row-requires-clause-within c = grind (arith, changes_below)

pub bring_row-requires-clause-others : goal.bring_row-requires-clause-others
bring_row-requires-clause-others c = grind (arith, changes_cover, same_values)
