-- How a command that holds no session ends: in each status, what it has read and printed, and what became of the
-- devices.
use Rattle.std.specs.Prelude.{◌≡◌, ℕ, List, Option, None}
use Rattle.trend_num.specs.{Point, Tuning}
use Rattle.trend_model.specs.Walk.{records, held}
use Rattle.trend_model.specs.{IsBounded}
use Rattle.byte_io.specs.Outside.{Outside, CountsNoFault}
use Rattle.byte_io.specs.{IsFaultOf}
use Rattle.point_text.specs.{archive_text}
use Rattle.plant_status.specs.{FileId}
use Rattle.plant_status.specs.declared.status.Status.{Status}
use Rattle.plant_status.specs.declared.status.Status.TheVariants.{BadWords, ReadFault, WantOfMemory}
use Rattle.plant_files.specs.{ToldFiles, IsFaultOfPlanned, PrintsSo, WhereDone}
use Rattle.pack_command.specs.{IsInputRead, IsPackRefusal, first_full, history_of, origin_of}
use Rattle.store_commands.specs.Commands.{IsChecked, IsCheckRefusal, IsTrend, IsTrendRefusal, AreAllKept, HaveGroupsSynced}
use Rattle.plant_store.specs.Groups.{DeviceTraces}
use Rattle.plant_store.specs.{AreKept}
use Rattle.store_commands.specs.FrameCommands.{AreFramesKept, HasGroupSynced, IsFrames, IsFramesRefusal}
use Rattle.plant_more.specs.{AsksForNone, EndsOfShifts, EndsOver, IsUnread, KeepsForShifts, Scene, scene}
use Rattle.plant_run.specs.CommandLine.{Form, Pack, Check, Trend, Log, Shifts, Frames, Unknown}

-- All of the input was read, and this is the text of what its history keeps. What is kept is near all values of the
-- history (`IsBounded`).
pub record IsPacked (tuning : Tuning) (before now : Outside) (text : List ℕ) : Type 0 where
  pub points : List Point
  pub read : IsInputRead before now points
  pub room : first_full (origin_of tuning) (history_of points) ≡ None
  pub same : text ≡ archive_text (records (origin_of tuning) (history_of points)) (held (origin_of tuning) (history_of points))
  pub bounded : IsBounded (origin_of tuning) (history_of points)

-- why `pack` has no result: there was no memory, and no read has failed; or it refuses the input with this status
abbrev pub IsNotPacked : Tuning → Outside → Outside → Status → Type 0
IsNotPacked tuning before now WantOfMemory = CountsNoFault before now
IsNotPacked tuning before now status = IsPackRefusal tuning before now status

-- what a run finds outside: the meaning of the input, and what its commands find
pub record World : Type 0 where
  pub input : Outside
  pub scene : Scene

abbrev pub world : Outside → Outside → ToldFiles → ℕ → Option (List ℕ) → DeviceTraces → ℕ → World
world input output files file_faults failed_name devices device_faults = record {
  input = input;
  scene = scene output files file_faults failed_name devices device_faults;
}

-- words of this form ask for no known command
abbrev pub MeansNothing : Form → Type 0
MeansNothing (Log named) = named ≡ None
MeansNothing (Shifts asked) = AsksForNone asked
MeansNothing Unknown = Unit {0}
MeansNothing other = ⊥

-- How a command of this form ends in this status. It is a command that leaves the input alone and holds no session.
abbrev pub EndsAround : Form → Scene → Scene → Status → Type 0
EndsAround (Check base) before now status =
    PrintsSo (IsChecked base before.files before.devices)
    (IsCheckRefusal base before.files before.devices now.devices before.device_faults now.device_faults)
    before.output now.output status
    × EndsOver base before now status
    × ((which : FileId) → status ≡ ReadFault which → IsFaultOf now.failed_name base)
EndsAround (Trend base plan) before now status =
    PrintsSo (IsTrend base plan before.files before.devices)
    (IsTrendRefusal base plan before.files before.devices now.devices before.device_faults now.device_faults)
    before.output now.output status
    × EndsOver base before now status
    × IsFaultOfPlanned base plan before.files now.failed_name status
    × WhereDone status (HaveGroupsSynced base before.files before.devices now.devices)
EndsAround (Shifts asked) before now status = EndsOfShifts asked before now status
EndsAround (Frames base group calc least) before now status =
    PrintsSo (IsFrames base group calc least before.files before.devices)
    (IsFramesRefusal base group calc before.files before.devices now.devices before.device_faults now.device_faults)
    before.output now.output status
    × EndsOver base before now status
    × ((which : FileId) → status ≡ ReadFault which → IsFaultOf now.failed_name base)
    × WhereDone status (HasGroupSynced base group calc before.files before.devices now.devices)
EndsAround Unknown before now status = (status ≡ BadWords) × IsUnread before now status
EndsAround other before now status = ⊥

-- How a command of this form that holds no session ends in this status. Only `pack` reads the input, and it reads
-- nothing else.
abbrev pub EndsFor : Form → World → World → Status → Type 0
EndsFor (Pack tuning) before now status =
    PrintsSo (IsPacked tuning before.input now.input) (IsNotPacked tuning before.input now.input)
    before.scene.output now.scene.output status
    × (now.scene ≡ record before.scene { output = now.scene.output })
EndsFor form before now status = EndsAround form before.scene now.scene status × (now.input ≡ before.input)

-- the devices after the command: a command over stored archives keeps what they stand for, any other leaves them alone
abbrev pub KeepsFor : Form → ToldFiles → DeviceTraces → DeviceTraces → Type 0
KeepsFor (Check base) files old new = AreKept base files old new
KeepsFor (Trend base plan) files old new = AreAllKept base files old new
KeepsFor (Shifts asked) files old new = KeepsForShifts asked files old new
KeepsFor (Frames base group calc least) files old new = AreFramesKept base group calc files old new
KeepsFor form files old new = new ≡ old
