use Rattle.std.proofs.Common.{◌≡◌, ◌-◌, ◌≤◌, ℕ, List, true, length, drop}
use Rattle.trend_model.specs.{Origin}
use Rattle.pack_command.specs.{HasCome, IsReady}
use Rattle.pack_command.proofs.intake.Intake.take_lines.Given as goal

abbrev pub invariant-loop-read : goal.invariant-loop-read
invariant-loop-read g l = record {
  ready : IsReady l.self.core l.self.rows;
  within : length l.rest ≤ length l.text;
  tail : l.rest ≡ drop (length l.text - length l.rest) l.text;
  come : (o : Origin) (bytes : List ℕ) → HasCome true o bytes l.text l.initial.self.core l.initial.self.rows l.initial.self.standing
      → HasCome true o bytes l.rest l.self.core l.self.rows l.self.standing;
}

abbrev pub decreases-loop-read : goal.decreases-loop-read
decreases-loop-read g l = length l.rest
