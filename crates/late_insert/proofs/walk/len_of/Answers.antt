use Rattle.std.proofs.Common.{◌≡◌, ◌+◌, arith}
use Rattle.late_insert.proofs.Finding.{no_page}
use Rattle.late_insert.proofs.Walking.{next_first}
use Rattle.late_insert.proofs.Reading.{page_len}
use Rattle.late_insert.proofs.walk.len_of.Goals as goal
use Rattle.late_insert.proofs.walk.len_of.Goals.{After-first-then-k-len}

-- the next page begins after this one
next : (c : After-first-then-k-len) → c.first.result ≡ c.first-then-k-len.result + c.frame_of-frame.result.now.len
next c = omega (
  arith,
  c.first.ensures no_page,
  c.first-then-k-len.ensures no_page,
  next_first _ _ _ _ _ no_page (c.frame_of-frame.ensures.read no_page) (omega (arith, c.if-k-len.true, c.len.ensures)),
)

pub overflow_sub-result : goal.overflow_sub-result
overflow_sub-result c = omega (arith, next (goal.at.overflow_sub-result c).After-first-then-k-len)

pub returns-then-k-len-clause-value : goal.returns-then-k-len-clause-value
returns-then-k-len-clause-value c = λ d.
    let at = (goal.at.returns-then-k-len-clause-value c).After-first-then-k-len in
    omega (arith, next at, page_len _ _ _ _ _ (c.frame_of-frame.ensures.read no_page) d)

pub returns-clause-value : goal.returns-clause-value
returns-clause-value c = λ d. page_len _ _ _ _ _ (c.frame_of-frame.ensures.read no_page) d
