-- How a command ends: what it has read and printed, and what became of the devices, for each status.
use Rattle.std.specs.Prelude.{◌≡◌, ◌⊎◌, ℕ, ℤ, ◌^◌, ◌<◌, List, Option, None, Some}
use Rattle.byte_io.specs.Outside.{Outside}
use Rattle.disk_model.specs.{Rose}
use Rattle.plant_status.specs.declared.status.Status.{Status}
use Rattle.plant_status.specs.declared.status.Status.TheVariants.{BadWords, DeviceFault}
use Rattle.plant_files.specs.{ToldFiles, IsTold, PrintsSo, WhereDone}
use Rattle.plant_files.specs.Reading.{faults_told}
use Rattle.plant_store.specs.{AreKept, IsDurable}
use Rattle.plant_store.specs.Groups.{DeviceTraces}
use Rattle.shift_calendar.specs.{IsDayWord, IsFirstDay}
use Rattle.plant_more.specs.Shifts.{IsFaultOfRead, IsShifts, IsShiftsRefusal}
use Rattle.plant_more.specs.Words.{AskedShifts}

-- What a command finds outside: the output's meaning; the files by name, how often a read of them has failed, and, if
-- known, the name of the file whose read failed last; the traces of devices by name, and how often a call of the store
-- has failed.
pub record Scene : Type 0 where
  pub output : Outside
  pub files : ToldFiles
  pub file_faults : ℕ
  pub failed_name : Option (List ℕ)
  pub devices : DeviceTraces
  pub device_faults : ℕ

abbrev pub scene : Outside → ToldFiles → ℕ → Option (List ℕ) → DeviceTraces → ℕ → Scene
scene output files file_faults failed_name devices device_faults = record {
  output = output;
  files = files;
  file_faults = file_faults;
  failed_name = failed_name;
  devices = devices;
  device_faults = device_faults;
}

-- the store counts one fault if the status reports a device fault, and otherwise none
abbrev pub CountsFor : Status → ℕ → ℕ → Type 0
CountsFor (DeviceFault unit) before now = Rose before now
CountsFor status before now = now ≡ before

-- A command over the stored archives of a base ends in this status. The count of failed reads rises if the status is a
-- read fault, and otherwise stays. The store's count of faults, while it can be counted, rises if the status is a
-- device fault, and otherwise stays. If the command is done, what it leaves on the devices is durable.
pub record EndsOver (base : List ℕ) (before now : Scene) (status : Status) : Type 0 where
  pub durable : WhereDone status (IsDurable base before.files before.devices now.devices)
  pub file_faults : now.file_faults ≡ faults_told status before.file_faults
  pub device_faults : before.device_faults < 2 ^ 64 → CountsFor status before.device_faults now.device_faults

-- the command prints the line of this status, reads nothing, and changes nothing else
pub record IsUnread (before now : Scene) (status : Status) : Type 0 where
  pub told : IsTold before.output now.output status
  pub rest : now ≡ record before { output = now.output }

-- ---- shifts

-- this word is no day from 1971-01-01 to 9990-12-31
abbrev pub IsNoDay : List ℕ → Type 0
IsNoDay word = (day : ℤ) → IsFirstDay day → IsDayWord word day → ⊥

-- the words do not ask for shifts, or their first day is no day
abbrev pub AsksForNone : Option AskedShifts → Type 0
AsksForNone None = Unit {0}
AsksForNone (Some asked) = IsNoDay asked.day

-- the command prints the shifts that were asked for, from this day on, and ends in this status
pub record EndsFrom (asked : AskedShifts) (day : ℤ) (before now : Scene) (status : Status) : Type 0 where
  pub first : IsFirstDay day
  pub named : IsDayWord asked.day day
  pub printed : PrintsSo (IsShifts asked.base asked.calendar day asked.days before.files before.devices)
      (IsShiftsRefusal asked.base asked.calendar before.files before.devices now.devices before.device_faults now.device_faults)
      before.output now.output status
  pub over : EndsOver asked.base before now status
  pub whose : IsFaultOfRead asked.base asked.calendar now.failed_name status

-- `shifts` ends in this status; its words ask for these shifts, or for none
abbrev pub EndsOfShifts : Option AskedShifts → Scene → Scene → Status → Type 0
EndsOfShifts None before now status = (status ≡ BadWords) × IsUnread before now status
EndsOfShifts (Some asked) before now status = ((day : ℤ) × EndsFrom asked day before now status)
    ⊎ (IsNoDay asked.day × (status ≡ BadWords) × IsUnread before now status)

-- The devices afterwards. If the words ask for shifts, the devices of the base are kept; otherwise no device has
-- changed.
abbrev pub KeepsForShifts : Option AskedShifts → ToldFiles → DeviceTraces → DeviceTraces → Type 0
KeepsForShifts None files old new = new ≡ old
KeepsForShifts (Some asked) files old new = AreKept asked.base files old new
