use Rattle.sheet_law.proofs.Stay.{stretch_stays}
use Rattle.sheet_law.proofs.law.late_records_touch_their_stretch.Goals as goal

pub returns : goal.returns
returns c = λ step m rs r from to some late. stretch_stays step m rs r from to some
