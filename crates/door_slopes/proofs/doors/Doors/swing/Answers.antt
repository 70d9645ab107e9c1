use Rattle.std.proofs.Common.{rules}
use Rattle.door_slopes.proofs.Slopes.{swung}
use Rattle.door_slopes.proofs.doors.Doors.swing.Goals as goal

pub returns-clause-doors : goal.returns-clause-doors
returns-clause-doors g c =
    swung c.args.self.now (record { hinge = c.self.inside.hinge; deviation = c.self.inside.dev; upper = c.upper_with-upper.result; lower = c.lower_with-lower.result })
    c.args.p c.requires.after (search rules) (search rules) (search rules) (search rules)
