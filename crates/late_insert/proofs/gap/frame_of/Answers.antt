use Rattle.std.proofs.Common.{ap, ◌∙◌, get_or}
use Rattle.std.proofs.lemmas.List.{get_or_default}
use Rattle.page_pool.specs.{frame_at}
use Rattle.late_insert.proofs.Finding.{no_page}
use Rattle.late_insert.proofs.Reading.{held_by, is_read}
use Rattle.late_insert.proofs.gap.frame_of.Goals as goal

pub frame-requires : goal.frame-requires
frame-requires c = held_by c.args.pool.now c.args.pages.now.items c.args.k c.id.result.now
    c.requires.pages c.requires.within (c.id.ensures.value no_page)

pub returns-clause-read : goal.returns-clause-read
returns-clause-read c = λ d.
    is_read c.args.pool.now c.args.pages.now.items c.args.k (get_or c.args.pages.now.items c.args.k d) c.frame.result.now
    c.requires.pages c.requires.within (get_or_default c.args.pages.now.items c.args.k d _ c.requires.within)
    (ap (frame_at c.args.pool.now) (c.id.ensures.value d) ∙ c.frame.ensures)
