use Rattle.std.proofs.Common.{◌≡◌, ◌+◌, length, take}
use Rattle.commit_log.specs.{puts}
use Rattle.plant_more.specs.{AreStanding, HasRoomBelow, log_rows}
use Rattle.plant_more.proofs.log_report.take_puts.Given as goal

abbrev pub invariant-loop-turn : goal.invariant-loop-turn
invariant-loop-turn g l = record {
  reached : l.place ≡ length l.log.opening.items + length (puts (take l.turn l.log.tape.items));
  standing : AreStanding l.tags (take l.place (log_rows l.log)) l.cores;
  room : HasRoomBelow l.tags (log_rows l.log) l.place;
}
