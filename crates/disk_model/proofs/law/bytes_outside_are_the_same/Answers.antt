use Rattle.disk_model.proofs.Images.{kept_since_sync}
use Rattle.disk_model.proofs.law.bytes_outside_are_the_same.Goals as goal

pub returns : goal.returns
returns c = kept_since_sync
