use Rattle.std.proofs.Common.{arith, sym, subst}
use Rattle.interp_read.specs.{IsReadable}
use Rattle.interp_read.proofs.ClosedPoints.{closed_readable}
use Rattle.interp_read.proofs.read.read_at.Goals as goal

pub reading_of-requires-clause-near : goal.reading_of-requires-clause-near
reading_of-requires-clause-near c = grind arith

pub returns-clause-value : goal.returns-clause-value
returns-clause-value c = grind arith

pub returns-clause-readable : goal.returns-clause-readable
returns-clause-readable c =
    subst IsReadable (sym (returns-clause-value c))
    (closed_readable c.args.step c.args.held c.args.content.now.records c.args.t
    c.len-len.ensures.rising c.len-len.ensures.range c.requires.range c.requires.last)
