-- What each command does: what it prints, and its session, if it holds one. And what the arguments of a process lead
-- to, with the exit code.
use Rattle.std.specs.Prelude.{◌≡◌, ◌⊎◌, ◌^◌, ◌<◌, ℕ, List, [], None, Some, Option, Result, Ok, Err, String, IfErr, IfSome, OnOk, string_bytes}
use Rattle.std.specs.Option.{IsSome}
use Rattle.std.specs.declared.alloc.Global.{Global}
use Rattle.disk_model.specs.{Device}
use Rattle.plant_status.specs.{code_of}
use Rattle.plant_status.specs.declared.status.Status.{Status}
use Rattle.plant_status.specs.declared.status.Status.TheVariants.{WantOfMemory}
use Rattle.plant_files.specs.{IsFaultOfPlanned, IsTold, PrintsSo}
use Rattle.plant_files.specs.Reading.{faults_after}
use Rattle.plant_store.specs.{CountsPlant}
use Rattle.run_command.specs.{IsDrilled, IsPromised}
use Rattle.run_command.specs.Runs.{IsUnheld}
use Rattle.commit_log.specs.{LogHistory}
use Rattle.session_report.specs.{Session}
use Rattle.plant_more.specs.{EndsOfLog, LogOutcome}
use Rattle.plant_run.specs.CommandLine.{Form, Run, Log, Drill, form_of}
use Rattle.plant_run.specs.declared.program.Outcome.{Outcome}
use Rattle.plant_run.specs.Run.{EndsFor, KeepsFor, World}

-- What a run of the plan in one file over the base in another came to, with this answer. If the devices were opened there
-- is a session, however it ended, and its promise holds. Otherwise there is a cause, no stop was counted, and a fault of a
-- device only if the answer reports one. The count of failed file reads agrees with the answer, and so does the name of
-- the file that failed.
pub record IsRunEnd (base plan : List ℕ) (before now : World) (stops_before stops_now : ℕ) (session : Option Session)
    (answer : Result (String Global) Status) : Type 0 where
  pub held : OnOk answer (IsSome session)
  pub promised : IfSome session (IsPromised base plan before.scene.files before.scene.devices now.scene.devices
      before.scene.device_faults now.scene.device_faults stops_before stops_now answer)
  pub unheld : session ≡ None → IfErr answer (IsUnheld base plan before.scene.files before.scene.devices now.scene.devices
      before.scene.device_faults now.scene.device_faults)
  pub file_faults : session ≡ None → now.scene.file_faults ≡ faults_after answer before.scene.file_faults
  pub no_file_fault : IsSome session → now.scene.file_faults ≡ before.scene.file_faults
  pub unstopped : session ≡ None → stops_now ≡ stops_before
  pub counts : session ≡ None → before.scene.device_faults < 2 ^ 64
      → CountsPlant answer before.scene.device_faults now.scene.device_faults
  pub whose : session ≡ None → IfErr answer (IsFaultOfPlanned base plan before.scene.files now.scene.failed_name)

-- the report of a call that ended so was printed, or the line of its refusal; or a part of it, if a write failed
abbrev pub PrintsEnd : (Result (String Global) Status → Type 0) → World → World → Status → Type 0
PrintsEnd Ends before now status = PrintsSo (λ text. (report : String Global) × (text ≡ string_bytes report) × Ends (Ok report))
    (λ why. Ends (Err why)) before.scene.output now.scene.output status

-- a run; it leaves the input alone
pub record IsRunSo (base plan : List ℕ) (before now : World) (stops_before stops_now : ℕ) (o : Outcome) : Type 0 where
  pub ends : PrintsEnd (IsRunEnd base plan before now stops_before stops_now o.session) before now o.status
  pub input : now.input ≡ before.input

-- a session that wrote this log, and that has no tag, group or worker
pub record IsOfLog (s : Session) (log : LogHistory) : Type 0 where
  pub log_is : s.log ≡ Some log
  pub no_tags : s.tags.items ≡ []
  pub no_groups : s.groups.items ≡ []
  pub no_notes : s.workers.items ≡ []

-- there is a session exactly if there is a log, and then the session has that log
abbrev pub IsHandedOn : Option LogHistory → Option Session → Type 0
IsHandedOn None None = Unit {0}
IsHandedOn (Some log) (Some s) = IsOfLog s log
IsHandedOn log session = ⊥

-- The logging of a plan over a base, from their files, if the words name them. The outcome has the status of `log` and
-- its log. The input is left alone.
pub record IsLogHandedOn {D : Type 0} (device : D → Device) (named : Option (List ℕ × List ℕ))
    (before now : World) (stops_before stops_now : ℕ) (o : Outcome) : Type 0 where
  pub came : LogOutcome
  pub logged : EndsOfLog device named before.scene now.scene stops_before stops_now came
  pub status : o.status ≡ came.status
  pub session : IsHandedOn came.log o.session
  pub input : now.input ≡ before.input

-- What a drill came to, with this answer. If its devices were opened there is a session, however it ended, and the drill's
-- promise holds. Otherwise there was no memory.
pub record IsDrillEnd (number tags events stops_before stops_now : ℕ) (session : Option Session) (answer : Result (String Global) Status)
    : Type 0 where
  pub held : OnOk answer (IsSome session)
  pub drilled : IfSome session (IsDrilled number tags events stops_before stops_now answer)
  pub unheld : session ≡ None → IfErr answer (λ why. why ≡ WantOfMemory)
  pub unstopped : session ≡ None → stops_now ≡ stops_before

-- a drill; nothing outside but the output has changed
pub record IsDrillSo (number tags events : ℕ) (before now : World) (stops_before stops_now : ℕ) (o : Outcome) : Type 0 where
  pub ends : PrintsEnd (IsDrillEnd number tags events stops_before stops_now o.session) before now o.status
  pub input : now.input ≡ before.input
  pub rest : now.scene ≡ record before.scene { output = now.scene.output }

-- A command that holds no session: how it ends in its status, and what a crash at any moment leaves of the devices.
pub record IsAnswered (form : Form) (before now : World) (stops_before stops_now : ℕ) (o : Outcome) : Type 0 where
  pub ends : EndsFor form before now o.status
  pub devices : KeepsFor form before.scene.files before.scene.devices now.scene.devices
  pub alone : o.session ≡ None
  pub unstopped : stops_now ≡ stops_before

-- the outcome of a command line of this form
abbrev pub ComesOf : {D : Type 0} → (D → Device) → Form → World → World → ℕ → ℕ → Outcome → Type 0
ComesOf device (Run base plan) before now stops_before stops_now o =
    IsRunSo base plan before now stops_before stops_now o
ComesOf device (Log named) before now stops_before stops_now o =
    IsLogHandedOn device named before now stops_before stops_now o
ComesOf device (Drill number tags events) before now stops_before stops_now o =
    IsDrillSo number tags events before now stops_before stops_now o
ComesOf device form before now stops_before stops_now o = IsAnswered form before now stops_before stops_now o

-- the line of this status is printed, the exit code is that of the status, and nothing else has changed
pub record IsUnrun (status : Status) (before now : World) (stops_before stops_now code : ℕ) : Type 0 where
  pub exit : code ≡ code_of status
  pub told : IsTold before.scene.output now.scene.output status
  pub input : now.input ≡ before.input
  pub rest : now.scene ≡ record before.scene { output = now.scene.output }
  pub unstopped : stops_now ≡ stops_before

-- the outcome of a command line of these words, with this exit code; or there was no memory for the words
abbrev pub ComesWithCode : {D : Type 0} → (D → Device) → List (List ℕ) → World → World → ℕ → ℕ → ℕ
    → Type 0
ComesWithCode device words before now stops_before stops_now code =
    ((o : Outcome) × (code ≡ code_of o.status) × ComesOf device (form_of words) before now stops_before stops_now o)
    ⊎ IsUnrun WantOfMemory before now stops_before stops_now code
