use Rattle.std.proofs.Common.{rules}
use Rattle.door_slopes.proofs.Slopes.{decided}
use Rattle.door_slopes.proofs.doors.Doors.admits.Goals as goal

pub returns-then-is_under_upper-clause-fits : goal.returns-then-is_under_upper-clause-fits
returns-then-is_under_upper-clause-fits g c =
    decided c.args.self.now.hinge c.args.p c.args.self.now.upper c.args.self.now.lower c.args.self.now.deviation
    c.is_over_lower.result (search rules)

pub returns-else-is_under_upper-clause-fits : goal.returns-else-is_under_upper-clause-fits
returns-else-is_under_upper-clause-fits g c =
    decided c.args.self.now.hinge c.args.p c.args.self.now.upper c.args.self.now.lower c.args.self.now.deviation
    c.is_under_upper.result (search rules)
