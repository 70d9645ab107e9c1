use Rattle.std.proofs.lemmas.Int.{to_z-of_z}
use Rattle.late_insert.specs.{rec_in}
use Rattle.late_insert.proofs.Summing.{rec_in_range, value_fits}
use Rattle.late_insert.proofs.total.point_at.Goals as goal

pub returns-clause-range : goal.returns-clause-range
returns-clause-range c =
    let range = rec_in_range c.args.frame.now c.args.i c.requires.recorded c.requires.within in
    let fits = value_fits (rec_in c.args.frame.now c.args.i).point range in
    simp to_z-of_z range
