use Rattle.std.proofs.Common.{◌≡◌, ◌-◌, ◌≤◌, ℕ, List, true, length, drop}
use Rattle.trend_model.specs.{Origin}
use Rattle.pack_command.specs.{HasCome, IsReady, most_rows}
use Rattle.pack_command.specs.declared.intake.Standing.TheVariants.{Taken}
use Rattle.pack_command.proofs.intake.Intake.take_plain_lines.Given as goal

abbrev pub invariant-loop-left : goal.invariant-loop-left
invariant-loop-left g l = record {
  few : l.left ≤ most_rows;
  ready : IsReady l.self.core (most_rows - l.left);
  standing : l.self.standing ≡ Taken;
  within : length l.rest ≤ length l.text;
  end : l.rest ≡ drop (length l.text - length l.rest) l.text;
  come : (o : Origin) (bytes : List ℕ) → HasCome true o bytes l.text l.fn.self.core l.fn.self.rows Taken
      → HasCome true o bytes l.rest l.self.core (most_rows - l.left) Taken;
}

abbrev pub decreases-loop-left : goal.decreases-loop-left
decreases-loop-left g l = length l.rest
