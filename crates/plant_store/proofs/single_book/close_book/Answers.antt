use Rattle.std.proofs.Common.{◌≡◌, ◌∙◌, Some, IfSome, sym, subst}
use Rattle.disk_model.specs.{Rose}
use Rattle.group_book.specs.{BookBeganWell, IsBookHistory, IsOnDevice, IsOwnDevice, device_name_of, faults_of, moment_of, trace_of}
use Rattle.branded_disk.specs.{branded}
use Rattle.plant_store.proofs.DeviceNames.{own_name}
use Rattle.plant_store.proofs.single_book.close_book.Goals as goal

pub returns-in-Some-clause-history : goal.returns-in-Some-clause-history
returns-in-Some-clause-history g c =
    let D = g.S.Dev.Disk in
    let is = c.into_history-dev.ensures in
    let history = c.into_history-dev.result.1 in
    let faults = c.args.book.opening.faults in
    record {
      group = is.group;
      def = is.def;
      text = is.text;
      opening = is.opening;
      tape = is.tape;
      versions = is.versions;
      copies = is.copies;
      rows = is.rows;
      evals = is.evals;
      same_group = is.same_group;
      same_grid = is.same_grid;
      history = subst (λ dev. IsBookHistory history (trace_of (branded D.device g.K.Begun.before) dev) (moment_of (branded D.device g.K.Begun.before) dev) (faults_of (branded D.device g.K.Begun.before) dev)) is.device
          is.history;
      there = subst (IsOnDevice c.args.book.text) is.device is.there;
      rose = λ failed. subst (λ dev. Rose faults (faults_of (branded D.device g.K.Begun.before) dev)) is.device (is.rose failed);
      named = subst (λ dev. IfSome dev (λ d. (branded D.device g.K.Begun.before d).handed.name ≡ Some (device_name_of c.args.book.text)))
          (sym c.in-Some.is ∙ is.device)
          (own_name (branded D.device g.K.Begun.before c.in-Some.dev).handed _
          (subst (IsOwnDevice (branded D.device g.K.Begun.before) c.args.book.text) c.in-Some.is is.own) c.give_back.ensures.named);
      begun = subst (BookBeganWell (branded D.device g.K.Begun.before) c.args.book.text c.args.book.def c.args.book.opening) is.device is.begun;
      faultless = λ usable. subst (λ dev. faults_of (branded D.device g.K.Begun.before) dev ≡ faults) is.device (is.faultless usable);
    }
