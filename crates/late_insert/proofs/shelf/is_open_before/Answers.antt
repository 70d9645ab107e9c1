use Rattle.std.proofs.Common.{◌-◌, length, get_or, arith}
use Rattle.std.proofs.lemmas.Bool.{ltb-true}
use Rattle.late_insert.specs.{IsPageRead}
use Rattle.late_insert.proofs.Finding.{no_page}
use Rattle.late_insert.proofs.Reading.{last_before, page_len, read_last}
use Rattle.late_insert.proofs.shelf.is_open_before.Goals as goal

-- the last page is read
read : (c : goal.After-result-1)
    → IsPageRead c.args.pool.now c.args.pages.now.items (length c.args.pages.now.items - 1)
    (get_or c.args.pages.now.items (length c.args.pages.now.items - 1) no_page) c.frame_of-frame.result.now
read c = read_last _ _ _ _ c.len.ensures (c.frame_of-frame.ensures.read no_page)

pub returns-then-n-lt-PAGE-clause-before : goal.returns-then-n-lt-PAGE-clause-before
returns-then-n-lt-PAGE-clause-before c = λ early.
    last_before _ _ _ _ _ (read c) c.args.t (c.frame_of-frame.result.now.len - 1) (omega (arith, c.requires.pages.some))
    (omega (arith, c.if-n-lt-PAGE.true.0)) (ltb-true _ _ early)

pub returns-then-n-lt-PAGE-clause-some : goal.returns-then-n-lt-PAGE-clause-some
returns-then-n-lt-PAGE-clause-some c = λ early d.
    omega (arith, page_len _ _ _ _ _ (read c) d, c.if-n-lt-PAGE.true.0)

pub returns-then-n-lt-PAGE-clause-room : goal.returns-then-n-lt-PAGE-clause-room
returns-then-n-lt-PAGE-clause-room c = λ early d.
    omega (arith, page_len _ _ _ _ _ (read c) d, c.if-n-lt-PAGE.true.1)
