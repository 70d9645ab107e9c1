use Rattle.std.proofs.Common.{◌-◌, length}
use Rattle.calc_parser.proofs.Lexing.{IsLexedSoFar}
use Rattle.calc_parser.proofs.lexer.lexed.Given as goal

abbrev pub invariant-loop-at : goal.invariant-loop-at
invariant-loop-at l = IsLexedSoFar l.text l.at l.lexed.tokens.items l.lexed.places.items

abbrev pub decreases-loop-at : goal.decreases-loop-at
decreases-loop-at l = length l.text - l.at
