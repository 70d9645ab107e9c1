use Rattle.sheet_law.proofs.Stay.{windows_stay}
use Rattle.sheet_law.proofs.law.untouched_windows_stay.Goals as goal

pub returns : goal.returns
returns c = windows_stay
