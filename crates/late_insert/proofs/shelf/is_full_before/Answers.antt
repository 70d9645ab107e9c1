use Rattle.std.proofs.Common.{◌-◌, length, get_or, arith}
use Rattle.std.proofs.lemmas.Bool.{ltb-true, ltb-false}
use Rattle.late_insert.specs.{IsPageRead}
use Rattle.late_insert.proofs.Finding.{no_page}
use Rattle.late_insert.proofs.Reading.{before_on, frame_page, last_before, page_len, read_last}
use Rattle.late_insert.proofs.shelf.is_full_before.Goals as goal
use Rattle.late_insert.proofs.shelf.is_full_before.Goals.{After-frame_of-frame}

-- the last page is read
read : (c : After-frame_of-frame)
    → IsPageRead c.args.pool.now c.args.pages.now.items (length c.args.pages.now.items - 1)
    (get_or c.args.pages.now.items (length c.args.pages.now.items - 1) no_page) c.frame_of-frame.result.now
read c = read_last _ _ _ _ c.len.ensures (c.frame_of-frame.ensures.read no_page)

pub returns-then-frame-eq-PAGE-clause-before : goal.returns-then-frame-eq-PAGE-clause-before
returns-then-frame-eq-PAGE-clause-before c = λ early.
    let is = read (goal.at.returns-then-frame-eq-PAGE-clause-before c).After-frame_of-frame in
    last_before _ _ _ _ _ is c.args.t 127 (omega (arith, c.requires.pages.some)) (omega arith)
    (ltb-true _ _ early)

pub returns-then-frame-eq-PAGE-clause-room : goal.returns-then-frame-eq-PAGE-clause-room
returns-then-frame-eq-PAGE-clause-room c = λ late before d.
    let is = read (goal.at.returns-then-frame-eq-PAGE-clause-room c).After-frame_of-frame in
    absurd (omega (arith, ltb-false _ _ late, before_on _ _ _ _ _ is c.args.t 127 (omega arith) before))

pub returns-else-frame-eq-PAGE-clause-room : goal.returns-else-frame-eq-PAGE-clause-room
returns-else-frame-eq-PAGE-clause-room c = λ late before d.
    let is = read (goal.at.returns-else-frame-eq-PAGE-clause-room c).After-frame_of-frame in
    omega (arith, page_len _ _ _ _ _ is d, (frame_page _ _ _ _ _ is).recorded.few, c.if-frame-eq-PAGE.false)
