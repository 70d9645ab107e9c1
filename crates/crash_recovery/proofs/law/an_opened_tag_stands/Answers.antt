use Rattle.crash_recovery.proofs.Openings.{opened_stands, image_stands}
use Rattle.crash_recovery.proofs.law.an_opened_tag_stands.Goals as goal

pub returns-clause-opened : goal.returns-clause-opened
returns-clause-opened c = opened_stands

pub returns-clause-images : goal.returns-clause-images
returns-clause-images c = image_stands
