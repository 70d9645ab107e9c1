use Rattle.std.proofs.Common.{Err, subst}
use Rattle.calc_parser.specs.{Gives}
use Rattle.run_command.proofs.drill_plant.calc.Goals as goal

pub unreachable-requires : goal.unreachable-requires
unreachable-requires c = subst (λ why. Gives (Err why) c.requires.formula.0) c.in-Err-Long.field-0-is
    (c.in-Err-Long.ensures.only c.requires.formula.0 c.requires.formula.1)

pub unreachable-requires-in-Err-Deep : goal.unreachable-requires-in-Err-Deep
unreachable-requires-in-Err-Deep c = subst (λ why. Gives (Err why) c.requires.formula.0) c.in-Err-Deep.field-0-is
    (c.in-Err-Deep.ensures.only c.requires.formula.0 c.requires.formula.1)

pub unreachable-requires-in-Err-Syntax : goal.unreachable-requires-in-Err-Syntax
unreachable-requires-in-Err-Syntax c = subst (λ why. Gives (Err why) c.requires.formula.0) c.in-Err-Syntax.field-0-is
    (c.in-Err-Syntax.ensures.only c.requires.formula.0 c.requires.formula.1)
