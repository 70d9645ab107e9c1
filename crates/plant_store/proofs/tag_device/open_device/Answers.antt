use Rattle.std.proofs.Common.{◌∙◌}
use Rattle.plant_store.proofs.TagDevices.{given_back, same_back, still, untouched}
use Rattle.plant_store.proofs.tag_device.open_device.Goals as goal

pub returns-in_default-clause-same : goal.returns-in_default-clause-same
returns-in_default-clause-same g c = still _ _

pub returns-in_default-device-clause-same : goal.returns-in_default-device-clause-same
returns-in_default-device-clause-same g c = untouched _ _ _ (c.in_default-device.ensures.unchanged _)

pub returns-clause-same : goal.returns-clause-same
returns-clause-same g c =
    let D = g.S.Dev.Disk in
    same_back c.args.def.now _ _ _ (D.device c.in-Ok-device.dev) (D.device c.open_core-dev.result.0) (g.S.Store.device_at c.args.store.now)
    (g.S.Store.device_at c.give_back.new.self) (c.as_str.ensures.value ∙ c.in-Ok.ensures) (c.as_str-2.ensures.value ∙ c.in-Ok.ensures)
    c.in-Ok-device.ensures.told c.in-Ok-device.ensures.named c.open_core-dev.ensures.handed c.give_back.ensures.told
    c.open_core-dev.ensures.same

pub returns-clause-counts : goal.returns-clause-counts
returns-clause-counts g c = λ small.
    given_back _ _ _ _ _ _ c.in-Ok-device.ensures.faultless c.open_core-dev.ensures.counts
    c.in-Ok-device.ensures.cause.passed c.give_back.ensures.counted small
