-- A frame that is lent out of its pool.
use Rattle.std.specs.Prelude.{ℕ, List, Option, Some, slice_set}
use Rattle.std.specs.Borrow.{Lends, MutBor, Fml}
use Rattle.page_pool.specs.declared.frame.Frame.{Frame}
use Rattle.page_pool.specs.contracts.pool.Pool.{the_row}
use Rattle.page_pool.specs.contracts.frame.Frame.{the_row as frame_row}

-- the pool ends with the frame of the id as the borrow r last left it
abbrev pub LendsFrame : MutBor (List (Option Frame)) → ℕ → MutBor Frame → Fml
LendsFrame pool id r = Lends the_row frame_row pool r (λ w. slice_set pool.now id (Some w))
