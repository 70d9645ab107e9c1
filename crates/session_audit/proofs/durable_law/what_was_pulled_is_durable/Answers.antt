use Rattle.session_audit.proofs.DurableLaws.{pulls_durable}
use Rattle.session_audit.proofs.durable_law.what_was_pulled_is_durable.Goals as goal

pub returns : goal.returns
returns c = pulls_durable
