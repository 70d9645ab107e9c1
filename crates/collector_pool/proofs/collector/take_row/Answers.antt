use Rattle.collector_pool.proofs.Endings.{refused_row}
use Rattle.collector_pool.proofs.collector.take_row.Goals as goal

pub returns : goal.returns
returns g c = refused_row c.args.row c.deref_mut.result.now c.take_into.result c.take_into.ensures.refused
