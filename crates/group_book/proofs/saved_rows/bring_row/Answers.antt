use Rattle.std.proofs.Common.{arith}
use Rattle.std.proofs.lemmas.List.{drop_all, drop_more}
use Rattle.std.proofs.lemmas.Option.{slice_get-get_or}
use Rattle.calc_refresh.proofs.Columns.{get-set_other, get-set_same}
use Rattle.group_book.proofs.Columns.{only_one, same_places}
use Rattle.group_book.proofs.saved_rows.bring_row.Goals as goal

pub loop-k-preserved : goal.loop-k-preserved
loop-k-preserved c = grind (arith, get-set_same, slice_get-get_or, drop_more, only_one, get-set_other)

pub returns : goal.returns
returns c = grind (arith, same_places, drop_all)
