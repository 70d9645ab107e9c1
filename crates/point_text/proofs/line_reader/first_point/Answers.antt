use Rattle.std.proofs.Common.{arith}
use Rattle.point_text.proofs.PointList.{read-in_range}
use Rattle.point_text.proofs.line_reader.first_point.Goals as goal

pub returns-in-Some-clause-in_range : goal.returns-in-Some-clause-in_range
returns-in-Some-clause-in_range c = grind (arith, read-in_range)
