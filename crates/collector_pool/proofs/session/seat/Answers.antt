use Rattle.std.proofs.Common.{refl, rules}
use Rattle.collector_pool.proofs.session.seat.Goals as goal

pub returns-clause-seated : goal.returns-clause-seated
returns-clause-seated g c = record {
  seat = record { role = c.args.role; pass = c.hand.result; note = c.new.result };
  seats = c.push_reserved.ensures.items;
  role_is = refl;
  worker = search rules;
  fresh = c.hand.ensures.fresh;
}
