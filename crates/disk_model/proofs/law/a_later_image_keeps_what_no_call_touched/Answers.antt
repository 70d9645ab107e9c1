use Rattle.disk_model.proofs.Images.{kept}
use Rattle.disk_model.proofs.law.a_later_image_keeps_what_no_call_touched.Goals as goal

pub returns : goal.returns
returns c = kept
