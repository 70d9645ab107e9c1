use Rattle.std.proofs.Common.{◌≡◌, length, refl, arith}
use Rattle.std.specs.Prelude.{vec_capacity}
use Rattle.commit_log.proofs.Openings.{opened_keeps}
use Rattle.commit_log.proofs.opening.log_of.Goals as goal
use Rattle.disk_model.specs.{moment}

pub invariant_of-result : goal.invariant_of-result
invariant_of-result g c =
    let p = c.args.parts in
    let D = g.D.Disk in
    let dev = c.args.dev in
    let acked : c.len-acked.result ≡ length p.rows.items = omega (arith, c.len-acked.ensures) in
    let now = opened_keeps p.plant.items c.args.tags p.rows.items c.clock-moment.result c.faults-faults.result p.tape.items (vec_capacity p.tape)
    c.args.room c.len-acked.result p.end (D.device dev).trace (moment (D.device dev).trace) (D.device dev).faults c.requires.empty c.clock-moment.ensures
    c.faults-faults.ensures acked c.requires.rows c.requires.capacity c.requires.few c.requires.ready refl in (grind arith)
