-- A name is what the library of names takes for one.
use Rattle.std.proofs.Common.{arith, sym, ap, cond, Some, None}
use Rattle.calc_parser.specs.declared.token.Token.TheVariants.{Quoted}
use Rattle.calc_parser.proofs.Names.{name_decides, no_name}
use Rattle.calc_parser.proofs.lexer.name_of.Goals as goal

pub returns-in-Some : goal.returns-in-Some
returns-in-Some c = grind (arith, name_decides)

pub returns-in-None : goal.returns-in-None
returns-in-None c = sym (ap (λ b. cond b (Some (Quoted c.args.bytes.now)) None) (no_name c.args.bytes.now c.in-None.ensures))
