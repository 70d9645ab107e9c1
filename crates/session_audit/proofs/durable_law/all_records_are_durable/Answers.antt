use Rattle.session_audit.proofs.DurableLaws.{all_durable}
use Rattle.session_audit.proofs.durable_law.all_records_are_durable.Goals as goal

pub returns : goal.returns
returns c = all_durable
