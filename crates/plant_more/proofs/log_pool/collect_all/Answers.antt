use Rattle.std.proofs.Common.{rules}
use Rattle.plant_status.proofs.Gathering.{whole_again}
use Rattle.plant_more.proofs.log_pool.collect_all.Goals as goal

pub returns-clause-done : goal.returns-clause-done
returns-clause-done g c =
    rw (whole_again c.args.crew.now.len c.args.crew.now.items c.collect_each.new.crew (search rules) (search rules), ← c.as_mut_slice.ensures.value)
    (record { each = c.collect_each.ensures })
