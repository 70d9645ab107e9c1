use Rattle.sheet_law.proofs.Complete.{complete_are}
use Rattle.sheet_law.proofs.law.reached_windows_are_complete.Goals as goal

pub returns : goal.returns
returns c = complete_are
