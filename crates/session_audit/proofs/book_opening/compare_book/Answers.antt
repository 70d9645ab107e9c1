use Rattle.std.proofs.Common.{arith}
use Rattle.session_audit.proofs.Items.{differs_so, kept_so}
use Rattle.session_audit.proofs.Marks.{parts_all}
use Rattle.session_audit.proofs.book_opening.compare_book.Goals as goal

pub returns-clause-same : goal.returns-clause-same
returns-clause-same g c =
    kept_so c.args.book.now c.args.known.now c.opening.result.now c.compare_opening.result c.opening.ensures
    (parts_all c.args.book.now.group c.args.book.now.def c.args.book.now.text c.args.known.now c.same_parts.result c.same_parts.ensures
    (omega (arith, c.if-agreeing-lt6.false, c.count_true-agreeing.ensures))) c.compare_opening.ensures.same

pub returns-clause-differs : goal.returns-clause-differs
returns-clause-differs g c =
    differs_so c.args.book.now c.args.known.now c.opening.result.now c.compare_opening.result c.opening.ensures
    (parts_all c.args.book.now.group c.args.book.now.def c.args.book.now.text c.args.known.now c.same_parts.result c.same_parts.ensures
    (omega (arith, c.if-agreeing-lt6.false, c.count_true-agreeing.ensures))) c.compare_opening.ensures.differs
