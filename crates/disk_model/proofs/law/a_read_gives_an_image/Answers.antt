use Rattle.disk_model.proofs.Images.{present}
use Rattle.disk_model.proofs.law.a_read_gives_an_image.Goals as goal

pub returns : goal.returns
returns c = present
