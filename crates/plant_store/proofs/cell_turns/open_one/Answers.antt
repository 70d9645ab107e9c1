use Rattle.std.proofs.Common.{◌∙◌, ap, refl, subst}
use Rattle.trend_num.specs.{TagDef}
use Rattle.branded_disk.specs.{branded}
use Rattle.plant_store.proofs.Counts.{counts_of}
use Rattle.plant_store.proofs.TagDevices.{given_back, opened_of, same_back, still, untouched}
use Rattle.plant_store.specs.{core_of, IsCellOpened}
use Rattle.plant_store.proofs.cell_turns.open_one.Goals as goal

pub returns-in_default-clause-same : goal.returns-in_default-clause-same
returns-in_default-clause-same g c = still _ _

pub returns-in_default-take-clause-same : goal.returns-in_default-take-clause-same
returns-in_default-take-clause-same g c = untouched _ _ _ (c.in_default-take.ensures.unchanged _)

pub returns-in-Ok-open_cell-clause-opened : goal.returns-in-Ok-open_cell-clause-opened
returns-in-Ok-open_cell-clause-opened g c =
    let cell = c.in-Ok-open_cell.cell in
    let is = c.in-Ok-open_cell.ensures in
    let faultless = is.faultless ∙ c.in-Ok-take.ensures.faultless in
    subst (λ o. IsCellOpened c.args.def.now o (branded g.S.Dev.Disk.device g.K.Begun.before cell.journal.dev) cell) c.in-Ok-take.ensures.told (record {
      def_is = is.def;
      found = opened_of c.args.def.now (branded g.S.Dev.Disk.device g.K.Begun.before c.in-Ok-take.dev).trace (core_of cell) is.opened
          (ap (λ (d : TagDef). d.step) is.def);
      left = record { recovers = is.recovers; made = is.made; synced = is.synced };
      same = is.any_moment;
      slots = is.slots;
      free = is.free;
      state_is = is.state;
      tape_is = is.tape;
      acked_is = is.acked;
      usable = is.usable;
      moment_is = is.moment;
      opened_at = is.opened_at;
      opened_faultless = is.faults_told ∙ faultless;
      faultless = faultless;
    })

pub returns-in-Err-clause-same : goal.returns-in-Err-clause-same
returns-in-Err-clause-same g c =
    let D = g.S.Dev.Disk in
    same_back c.args.def.now c.args.name.now _ _ (branded D.device g.K.Begun.before c.in-Ok-take.dev) (branded D.device g.K.Begun.before c.in-Err.field-0.dev)
    (g.S.Store.device_at c.args.store.now) (g.S.Store.device_at c.give_back.new.store) refl refl c.in-Ok-take.ensures.told
    c.in-Ok-take.ensures.named c.in-Err.ensures.handed_refused c.give_back.ensures.told c.in-Err.ensures.any_moment_refused

pub returns-in-Err-clause-counts : goal.returns-in-Err-clause-counts
returns-in-Err-clause-counts g c = λ small.
    given_back _ _ _ _ _ _ c.in-Ok-take.ensures.faultless (counts_of _ _ _ _ c.in-Err.ensures.counts)
    c.in-Ok-take.ensures.cause.passed c.give_back.ensures.counted small
