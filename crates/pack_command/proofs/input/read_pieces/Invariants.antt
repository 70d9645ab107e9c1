use Rattle.std.proofs.Common.{◌+◌, ◌-◌, ◌≤◌, ℕ, List, [], true, take}
use Rattle.trend_model.specs.{Origin}
use Rattle.point_text.specs.{HasNoFeed}
use Rattle.pack_command.specs.{most_input_bytes, AreTakenFrom, HasCome, IsReady}
use Rattle.pack_command.proofs.input.read_pieces.Given as goal

abbrev pub invariant-loop-count : goal.invariant-loop-count
invariant-loop-count g l = record {
  within : l.total ≤ most_input_bytes;
  short : l.begun ≤ 64;
  ready : IsReady l.intake.core l.intake.rows;
  one : HasNoFeed (take l.begun l.buffer);
  read : (bytes : List ℕ) × AreTakenFrom (g.I.Source.meaning l.initial.input) (g.I.Source.meaning l.input) bytes l.total
      × ((o : Origin) → HasCome true o [] [] l.initial.intake.core l.initial.intake.rows l.initial.intake.standing
      → HasCome true o bytes (take l.begun l.buffer) l.intake.core l.intake.rows l.intake.standing);
}

abbrev pub decreases-loop-count : goal.decreases-loop-count
decreases-loop-count g l = most_input_bytes + 1 - l.total
