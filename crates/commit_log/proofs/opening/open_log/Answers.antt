use Rattle.std.proofs.Common.{List, ℕ, ap, subst, sym, refl}
use Rattle.disk_model.specs.{Shows, moment}
use Rattle.commit_log.specs.{StandsForRows, ToldLog, LogBeganWell}
use Rattle.commit_log.proofs.Begun.{began_well}
use Rattle.commit_log.proofs.opening.open_log.Goals as goal

pub returns-in-Ok-clause-opened : goal.returns-in-Ok-clause-opened
returns-in-Ok-clause-opened g c =
    subst (λ rows. Shows (g.D.Disk.device c.args.dev).trace (λ i. StandsForRows c.args.plant.now c.args.tags i rows))
    (sym (ap (λ (l : ToldLog _). l.opening) c.log_of.ensures)) c.in-Ok.ensures.stood

pub log_of-requires-clause-begun : goal.log_of-requires-clause-begun
log_of-requires-clause-begun g c =
    let x = c.args in
    let D = g.D.Disk in
    let p = c.in-Ok.parts in
    let new = D.device c.open_parts.new.dev in
    subst (λ (l : List ℕ). LogBeganWell l x.tags p.rows.items (moment new.trace) new.handed new.trace) (sym c.in-Ok.ensures.plant)
    (began_well x.plant.now x.tags p.rows.items (moment new.trace) (D.device x.dev) new c.open_parts.ensures.handed c.requires.unused
    c.in-Ok.ensures.stood c.in-Ok.ensures.any_moment refl)
