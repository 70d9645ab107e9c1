use Rattle.calc_refresh.specs.{lists_of}
use Rattle.group_tests.proofs.Copies.{as_many_copies}
use Rattle.group_tests.proofs.sheets.tell_on.Goals as goal

pub returns : goal.returns
returns g c =
    as_many_copies c.apply.result c.args.sheet.now c.apply.new.self (lists_of c.args.deltas.now)
    c.apply.ensures.refreshed c.apply.ensures.unchanged
