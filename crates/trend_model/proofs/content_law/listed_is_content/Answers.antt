use Rattle.trend_model.proofs.ContentList.{content_listed}
use Rattle.trend_model.proofs.content_law.listed_is_content.Goals as goal

pub returns : goal.returns
returns c = content_listed
