use Rattle.std.proofs.Common.{◌≡◌, Some, subst}
use Rattle.disk_model.specs.{Rose}
use Rattle.tag_cell.specs.{BeganWell, device_name, IsCellHistory}
use Rattle.branded_disk.specs.{branded}
use Rattle.plant_store.proofs.DeviceNames.{own_name}
use Rattle.plant_store.proofs.cell_closing.close_cell.Goals as goal

pub returns-clause-history : goal.returns-clause-history
returns-clause-history g c =
    let D = g.S.Dev.Disk in
    let is = c.into_history-dev.ensures in
    let history = c.into_history-dev.result.1 in
    let faults = c.args.cell.opening.faults in
    record {
      def_is = is.def;
      opening_is = is.opening;
      tape_is = is.tape;
      records_are = is.records;
      summary_is = is.summary;
      acked_is = is.acked;
      history = subst (λ d. IsCellHistory history (branded D.device g.K.Begun.before d)) is.device is.history;
      rose = λ failed. subst (λ d. Rose faults (branded D.device g.K.Begun.before d).faults) is.device (is.rose failed);
      named = subst (λ d. (branded D.device g.K.Begun.before d).handed.name ≡ Some (device_name c.args.cell.def.name)) is.device
          (own_name (branded D.device g.K.Begun.before c.into_history-dev.result.0).handed _ is.named c.give_back.ensures.named);
      begun = subst (λ d. BeganWell c.args.cell.def c.args.cell.opening (branded D.device g.K.Begun.before d).handed (branded D.device g.K.Begun.before d).trace)
          is.device is.begun;
      faultless = λ usable. subst (λ d. (branded D.device g.K.Begun.before d).faults ≡ faults) is.device (is.faultless usable);
    }
