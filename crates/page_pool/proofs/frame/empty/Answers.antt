use Rattle.std.proofs.Common.{refl}
use Rattle.page_pool.specs.{empty_frame}
use Rattle.page_pool.proofs.frame.empty.Goals as goal

pub returns : goal.returns
unfolding empty_frame
returns c = refl
