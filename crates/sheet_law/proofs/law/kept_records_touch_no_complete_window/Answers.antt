use Rattle.sheet_law.proofs.Stay.{newest_stays}
use Rattle.sheet_law.proofs.law.kept_records_touch_no_complete_window.Goals as goal

pub returns : goal.returns
returns c = newest_stays
