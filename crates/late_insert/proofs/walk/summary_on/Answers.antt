use Rattle.std.proofs.Common.{slice_range, sym, ap, ◌∙◌, arith}
use Rattle.trend_model.specs.{points_of}
use Rattle.late_insert.specs.{records_at, summary_of}
use Rattle.late_insert.proofs.Finding.{no_page}
use Rattle.late_insert.proofs.Reading.{frame_page, page_len}
use Rattle.late_insert.proofs.Walking.{summary_whole}
use Rattle.late_insert.proofs.walk.summary_on.Goals as goal

pub returns-then-end-start : goal.returns-then-end-start
returns-then-end-start c = λ d.
    sym (c.summary.ensures d) ∙ summary_whole _ _ _ _ _ d c.requires.pages c.requires.page c.requires.some
    (c.requires.within d) (c.if-end-start.true ∙ sym (c.len_of.ensures.value d))

pub summary_between-requires-clause-recorded : goal.summary_between-requires-clause-recorded
summary_between-requires-clause-recorded c = (frame_page _ _ _ _ _ (c.frame_of.ensures.read no_page)).recorded

pub summary_between-requires-clause-within : goal.summary_between-requires-clause-within
summary_between-requires-clause-within c =
    omega (arith, c.requires.within no_page, page_len _ _ _ _ _ (c.frame_of.ensures.read no_page) no_page)

pub returns : goal.returns
returns c = λ d.
    c.summary_between.ensures
    ∙ ap (λ l. summary_of (slice_range (points_of l) c.args.start c.args.end))
    (sym (ap records_at (c.frame_of.ensures.read d).there))
