use Rattle.std.proofs.Common.{◌-◌, sym, ap, ◌∙◌, arith}
use Rattle.late_insert.specs.{rec_in}
use Rattle.late_insert.proofs.Finding.{no_page}
use Rattle.late_insert.proofs.Reading.{frame_page, read_on}
use Rattle.late_insert.proofs.gap.rec_near.Goals as goal

pub rec_at-requires-clause-recorded : goal.rec_at-requires-clause-recorded
rec_at-requires-clause-recorded c =
    let is = c.frame_of-frame.ensures.read no_page in
    (frame_page _ _ _ _ _ is).recorded

pub returns-then-i-first-clause-value : goal.returns-then-i-first-clause-value
returns-then-i-first-clause-value c = λ d.
    let is = c.frame_of-frame.ensures.read no_page in
    let first = c.first-first.ensures no_page in
    read_on _ _ _ _ _ is c.args.i d (omega arith) (omega arith)
    ∙ (ap (λ n. rec_in c.frame_of-frame.result.now (c.args.i - n)) first ∙ sym c.rec_at.ensures.value)
