use Rattle.device_layout.proofs.OneDamage.{one_damage}
use Rattle.device_layout.proofs.law.one_damage_is_told.Goals as goal

pub returns : goal.returns
returns c = one_damage
