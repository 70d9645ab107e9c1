use Rattle.tag_core.proofs.Slopes.{left_doors}
use Rattle.tag_core.proofs.restart.are_left.Goals as goal

pub returns : goal.returns
returns g c =
    left_doors c.args.doors c.swing.new.self c.args.p _ c.swing.ensures.hinge c.swing.ensures.deviation c.swing.ensures.upper
    c.swing.ensures.lower c.same_doors.ensures
