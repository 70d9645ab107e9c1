use Rattle.std.proofs.Common.{arith}
use Rattle.crash_recovery.proofs.Logged.{new_records, torn_kept, torn_moments}
use Rattle.crash_recovery.proofs.seat.Seat.put_new_records.Goals as goal

pub returns-then-is_empty-clause-any_moment : goal.returns-then-is_empty-clause-any_moment
returns-then-is_empty-clause-any_moment g c = torn_kept _ _ _

pub returns-clause-any_moment : goal.returns-clause-any_moment
returns-clause-any_moment g c = grind (arith, new_records, torn_moments)
