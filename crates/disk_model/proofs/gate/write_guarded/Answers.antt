use Rattle.std.proofs.Common.{arith}
use Rattle.disk_model.proofs.Guards.{first, second, third, fourth, gate_reached}
use Rattle.disk_model.proofs.gate.write_guarded.Goals as goal

pub returns-in_err-write_at-clause-any_moment : goal.returns-in_err-write_at-clause-any_moment
returns-in_err-write_at-clause-any_moment g c = grind (arith, first)

pub returns-in_err-sync-clause-any_moment : goal.returns-in_err-sync-clause-any_moment
returns-in_err-sync-clause-any_moment g c = grind (arith, second)

pub write_at-requires-2 : goal.write_at-requires-2
write_at-requires-2 g c = grind (arith, gate_reached)

pub returns-in_err-write_at-2-clause-any_moment : goal.returns-in_err-write_at-2-clause-any_moment
returns-in_err-write_at-2-clause-any_moment g c = grind (arith, third)

pub returns-clause-any_moment : goal.returns-clause-any_moment
returns-clause-any_moment g c = grind (arith, fourth)
