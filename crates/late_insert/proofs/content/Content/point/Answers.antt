use Rattle.late_insert.proofs.Nearest.{point_get}
use Rattle.late_insert.proofs.content.Content.point.Goals as goal

pub returns-clause-value : goal.returns-clause-value
returns-clause-value c = point_get c.args.self.now.records c.args.i c.rec.result c.requires
    (c.rec.ensures.value c.rec.result)
