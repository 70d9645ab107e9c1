use Rattle.std.proofs.Common.{ℕ, sym, subst}
use Rattle.pack_command.specs.{HasCome}
use Rattle.pack_command.proofs.intake.Intake.take_row.Goals as goal

pub returns-clause-come : goal.returns-clause-come
returns-clause-come g c = λ further o bytes rest after come next.
    subst (λ (n : ℕ). HasCome further o bytes after c.after_row-self.new.core n c.after_row-self.result) (sym c.min-self.ensures)
    (c.after_row-self.ensures.come further o bytes rest after come next)
