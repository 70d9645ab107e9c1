use Rattle.std.proofs.Common.{take}
use Rattle.plant_more.specs.{AreStanding, HasRoomBelow, log_rows}
use Rattle.plant_more.proofs.log_report.take_opening.Given as goal

abbrev pub invariant-loop-place : goal.invariant-loop-place
invariant-loop-place g l = record {
  standing : AreStanding l.tags (take l.place (log_rows l.log)) l.cores;
  room : HasRoomBelow l.tags (log_rows l.log) l.place;
}
