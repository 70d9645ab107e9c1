use Rattle.device_layout.proofs.OneState.{one_state}
use Rattle.device_layout.proofs.law.one_state_is_recovered.Goals as goal

pub returns : goal.returns
returns c = one_state
