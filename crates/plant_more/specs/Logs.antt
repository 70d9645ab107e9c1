-- What `log` results in: the printed text, and the log.
use Rattle.std.specs.Prelude.{◌≡◌, ◌≢◌, ℕ, ◌^◌, ◌<◌, List, None, Some, Option, Result, String, IfErr, IfOk, IfSome, OnOk, string_bytes}
use Rattle.std.specs.Option.{IsSome}
use Rattle.std.specs.declared.alloc.Global.{Global}
use Rattle.disk_model.specs.{Device}
use Rattle.plant_status.specs.declared.status.Status.{Status}
use Rattle.plant_status.specs.declared.status.Status.TheVariants.{BadWords}
use Rattle.plant_files.specs.{IsFaultOfPlanned, IsPrintedSo, IsTold}
use Rattle.plant_files.specs.Reading.{faults_after}
use Rattle.plant_more.specs.LogHeadline.{IsLogged, IsUnlogged}
use Rattle.plant_more.specs.LogOpenings.{CountsOpening}
use Rattle.plant_more.specs.declared.log_command.LogOutcome.{LogOutcome}
use Rattle.plant_more.specs.Endings.{IsUnread, Scene}

-- `log` with the plan in one file, over the base in another. It prints a line for each tag, or a line that states its
-- refusal.
-- If collectors were started, the outcome has the log's history, however the command ended. If none was started, no
-- worker was stopped, and there is a cause, which is never bad words. In that case the counts of failed reads and of
-- failed device calls rise exactly as the status reports. The failed file is the one that the status names.
pub record IsLogSo {D : Type 0} (device : D → Device) (base plan : List ℕ) (before now : Scene)
    (stops_before stops_now : ℕ) (o : LogOutcome) : Type 0 where
  pub answer : Result (String Global) Status
  pub held : OnOk answer (IsSome o.log)
  pub log : IfSome o.log (IsLogged device base plan before.files before.devices now.devices before.device_faults
      now.device_faults stops_before stops_now answer)
  pub unlogged : o.log ≡ None → IfErr answer (IsUnlogged base plan before.files before.devices now.devices before.device_faults
      now.device_faults)
  pub counts : o.log ≡ None → before.device_faults < 2 ^ 64 → CountsOpening answer before.device_faults now.device_faults
  pub unstopped : o.log ≡ None → stops_now ≡ stops_before
  pub file_faults : o.log ≡ None → now.file_faults ≡ faults_after answer before.file_faults
  pub no_file_fault : IsSome o.log → now.file_faults ≡ before.file_faults
  pub whose : o.log ≡ None → IfErr answer (IsFaultOfPlanned base plan before.files now.failed_name)
  pub printed : IfOk answer (λ text. IsPrintedSo (string_bytes text) before.output now.output o.status)
  pub refused : IfErr answer (λ why. (o.status ≡ why) × IsTold before.output now.output why)
  pub understood : o.status ≢ BadWords

-- the words name no plan: the command prints the line for bad words, reads nothing, and starts no worker
pub record IsNoPlan (before now : Scene) (stops_before stops_now : ℕ) (o : LogOutcome) : Type 0 where
  pub status : o.status ≡ BadWords
  pub unread : IsUnread before now BadWords
  pub none : o.log ≡ None
  pub unstopped : stops_now ≡ stops_before

-- `log` results in this; its words name this base and this plan, or none
abbrev pub EndsOfLog : {D : Type 0} → (D → Device) → Option (List ℕ × List ℕ) → Scene → Scene → ℕ → ℕ
    → LogOutcome → Type 0
EndsOfLog device None before now stops_before stops_now o = IsNoPlan before now stops_before stops_now o
EndsOfLog device (Some named) before now stops_before stops_now o =
    IsLogSo device named.0 named.1 before now stops_before stops_now o
