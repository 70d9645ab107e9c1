-- The verdict on the tokens becomes the answer for the text.
use Rattle.std.proofs.Common.{arith}
use Rattle.calc_parser.proofs.Parsing.{is_formula, only_formula, has_cause, no_formula}
use Rattle.calc_parser.proofs.formula.parse.Goals as goal

pub returns-in-Ok-clause-tree : goal.returns-in-Ok-clause-tree
returns-in-Ok-clause-tree c = grind (arith, is_formula)

pub returns-in-Ok-clause-only : goal.returns-in-Ok-clause-only
returns-in-Ok-clause-only c = λ t f. only_formula c.args.text.now _ t (returns-in-Ok-clause-tree c) f

pub returns-clause-only : goal.returns-clause-only
returns-clause-only c = grind (arith, no_formula)

pub returns-clause-refused : goal.returns-clause-refused
returns-clause-refused c = grind (arith, has_cause)
