use Rattle.std.proofs.Common.{◌≡◌, [], ◌∷◌, ◌++◌, ap, ◌∙◌}
use Rattle.page_pool.specs.{TakesFrame}
use Rattle.late_insert.proofs.Opening.{first_page_is, no_records, no_lengths}
use Rattle.late_insert.specs.{Listed, no_summary}
use Rattle.late_insert.proofs.shelf.first_page.Goals as goal

-- the frame that was taken, and the list of its page alone
takes_here : (c : goal.After-push) → TakesFrame c.args.pool.now c.unwrap-id.result c.take_frame.new.self
takes_here c = rw c.unwrap-id.ensures at c.take_frame.ensures.taken

alone : (c : goal.After-push) → c.push.new.self.items ≡ record
    { id = c.unwrap-id.result; first = 0; start = 0; summary = no_summary } ∷ []
alone c =
    ap (λ (s : Listed). s.items) c.push.ensures ∙ ap
    (λ ps. ps ++ record { id = c.unwrap-id.result; first = 0; start = 0; summary = no_summary } ∷ [])
    c.requires.none

pub returns-clause-pages : goal.returns-clause-pages
returns-clause-pages c =
    first_page_is c.args.pool.now c.take_frame.new.self c.push.new.self.items c.unwrap-id.result
    (takes_here c) (alone c)

pub returns-clause-empty : goal.returns-clause-empty
returns-clause-empty c =
    no_records c.args.pool.now c.take_frame.new.self c.push.new.self.items c.unwrap-id.result
    (takes_here c) (alone c)

pub returns-clause-lengths : goal.returns-clause-lengths
returns-clause-lengths c =
    no_lengths c.args.pool.now c.take_frame.new.self c.push.new.self.items c.unwrap-id.result
    (takes_here c) (alone c)
