use Rattle.device_layout.proofs.Undamaged.{undamaged}
use Rattle.device_layout.proofs.law.what_recovers_is_not_damaged.Goals as goal

pub returns : goal.returns
returns c = undamaged
