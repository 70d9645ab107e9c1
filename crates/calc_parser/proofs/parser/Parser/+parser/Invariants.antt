-- Each call is at a looser level of the grammar, or one level deeper.
use Rattle.std.proofs.Common.{◌+◌, ◌-◌, ◌*◌, length}
use Rattle.calc_parser.proofs.Steps.{IsReadSoFar}
use Rattle.calc_parser.specs.{sums, terms, EndsTerms}
use Rattle.calc_parser.specs.Tree.{tree_of}
use Rattle.calc_parser.proofs.parser.Parser.+parser.Given as goal

abbrev pub decreases-formula : goal.decreases-formula
decreases-formula l = 8 * (32 - l.level) + 6

abbrev pub decreases-sum : goal.decreases-sum
decreases-sum l = 8 * (32 - l.level) + 5

abbrev pub decreases-term : goal.decreases-term
decreases-term l = 8 * (32 - l.level) + 4

abbrev pub decreases-factor : goal.decreases-factor
decreases-factor l = 8 * (32 - l.level) + 3

abbrev pub decreases-signed : goal.decreases-signed
decreases-signed l = 8 * (32 - l.level) + 2

abbrev pub decreases-bracketed : goal.decreases-bracketed
decreases-bracketed l = 8 * (32 - l.level) + 2

abbrev pub decreases-picked : goal.decreases-picked
decreases-picked l = 8 * (32 - l.level) + 2

abbrev pub decreases-chosen : goal.decreases-chosen
decreases-chosen l = 8 * (32 - l.level) + 2

abbrev pub decreases-first : goal.decreases-first
decreases-first l = 8 * (32 - l.level) + 1

abbrev pub decreases-next : goal.decreases-next
decreases-next l = 8 * (32 - l.level) + 1

abbrev pub invariant-sum-loop-sign : goal.invariant-sum-loop-sign
invariant-sum-loop-sign l = record {
  read : IsReadSoFar sums l.level l.fn.self.rest.now l.self.rest.now (tree_of l.sum);
  ends : EndsTerms l.self.rest.now;
}

abbrev pub decreases-sum-loop-sign : goal.decreases-sum-loop-sign
decreases-sum-loop-sign l = length l.self.rest.now

abbrev pub invariant-term-loop-sign : goal.invariant-term-loop-sign
invariant-term-loop-sign l = IsReadSoFar terms l.level l.fn.self.rest.now l.self.rest.now (tree_of l.term)

abbrev pub decreases-term-loop-sign : goal.decreases-term-loop-sign
decreases-term-loop-sign l = length l.self.rest.now
