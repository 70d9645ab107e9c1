use Rattle.trend_model.proofs.ContentList.{content_closed}
use Rattle.trend_model.proofs.content_law.closed_is_content.Goals as goal

pub returns : goal.returns
returns c = content_closed
