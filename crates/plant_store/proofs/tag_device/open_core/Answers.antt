use Rattle.std.proofs.Common.{subst, sym}
use Rattle.plant_store.specs.Tags.{IsLeft}
use Rattle.plant_store.proofs.Counts.{counts_of}
use Rattle.plant_store.proofs.TagDevices.{opened_of}
use Rattle.plant_store.proofs.tag_device.open_core.Goals as goal

pub returns-in-Ok-clause-opened : goal.returns-in-Ok-clause-opened
returns-in-Ok-clause-opened g c = opened_of _ _ _ c.in-Ok.ensures.opened c.in-Ok.ensures.step

pub returns-in-Ok-clause-left : goal.returns-in-Ok-clause-left
returns-in-Ok-clause-left g c =
    let D = g.D.Disk in
    let is = c.in-Ok.ensures in
    subst (λ d. IsLeft c.args.def.now (D.device c.args.dev).trace (D.device d).trace c.in-Ok.field-0.core) (sym c.into_device.ensures)
    (record { recovers = is.recovers; made = is.made; synced = is.synced })

pub returns-in-Err-clause-counts : goal.returns-in-Err-clause-counts
returns-in-Err-clause-counts g c = counts_of _ _ _ _ c.in-Err.ensures.counts
