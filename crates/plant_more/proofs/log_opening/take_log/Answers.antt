use Rattle.std.proofs.Common.{◌∙◌, subst}
use Rattle.plant_more.specs.LogOpenings.{IsLogOpened}
use Rattle.plant_more.proofs.LogKept.{untouched}
use Rattle.plant_more.proofs.log_opening.take_log.Goals as goal

pub returns-in_default-clause-kept : goal.returns-in_default-clause-kept
returns-in_default-clause-kept g c = untouched c.args.plant.now c.args.tags _ _ c.in_default.ensures.unchanged

pub returns-in-Ok-open_log-clause-opened : goal.returns-in-Ok-open_log-clause-opened
returns-in-Ok-open_log-clause-opened g c =
    let x = c.args in
    let is = c.in-Ok-open_log.ensures in
    let none = is.faultless ∙ c.in-Ok.ensures.faultless in
    subst (λ o. IsLogOpened g.S.Dev.Disk.device x.plant.now x.tags x.room o c.in-Ok-open_log.log) c.in-Ok.ensures.told (record {
      plant = is.plant;
      tags_are = is.tags;
      room_is = is.room;
      rows = is.opened;
      any_moment = is.any_moment;
      synced = is.synced;
      moment = is.moment;
      opened_at = is.opened_at;
      faults_are = is.faults ∙ none;
      faultless = none;
      tape = is.tape;
      usable = is.usable;
    })
