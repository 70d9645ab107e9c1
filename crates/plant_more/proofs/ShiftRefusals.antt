-- Which statuses the command is refused with, and which file a read fault names.
use Rattle.std.proofs.Common.{◌≡◌, ℕ, List, Option, subst}
use Rattle.std.specs.Prelude.{◌≢◌}
use Rattle.byte_io.specs.{FileTold, IsFaultOf}
use Rattle.trend_num.specs.{TagDef}
use Rattle.plant_status.specs.{FileId}
use Rattle.plant_status.specs.declared.file.FileId.TheVariants as file
use Rattle.plant_status.specs.declared.status.Status.{Status}
use Rattle.plant_status.specs.declared.status.Status.TheVariants.{ReadFault}
use Rattle.plant_files.specs.{IsBaseRefusal}
use Rattle.plant_store.specs.TagRefusals.{IsRefusal}
use Rattle.plant_store.specs.Groups.{DeviceTraces}
use Rattle.plant_more.specs.{IsCalendarRefusal}
use Rattle.plant_more.specs.Shifts.{IsCommandRefusal, IsFaultOfRead}

-- the refusal of a base is one of a command
pub own_base : (t : FileTold) (why : Status) → IsBaseRefusal t why → IsCommandRefusal why
own_base t why refused = record {
  no_end = λ is. subst (IsBaseRefusal t) is refused;
  no_words = λ is. subst (IsBaseRefusal t) is refused;
  no_write = λ is. subst (IsBaseRefusal t) is refused;
}

-- so is that of a calendar
pub own_calendar : (names : List (List ℕ)) (t : FileTold) (why : Status) → IsCalendarRefusal names t why → IsCommandRefusal why
own_calendar names t why refused = record {
  no_end = λ is. subst (IsCalendarRefusal names t) is refused;
  no_words = λ is. subst (IsCalendarRefusal names t) is refused;
  no_write = λ is. subst (IsCalendarRefusal names t) is refused;
}

-- and that of a tag
pub own_tag : (tags : List TagDef) (old new : DeviceTraces) (before now : ℕ) (why : Status) → IsRefusal tags old new before now why
    → IsCommandRefusal why
own_tag tags old new before now why refused = record {
  no_end = λ is. subst (IsRefusal tags old new before now) is refused;
  no_words = λ is. subst (IsRefusal tags old new before now) is refused;
  no_write = λ is. subst (IsRefusal tags old new before now) is refused;
}

-- ---- whose read failed

-- two files are not one
base_is_no_calendar : file.Calendar ≢ file.Base
base_is_no_calendar same = cc

calendar_is_no_base : file.Base ≢ file.Calendar
calendar_is_no_base same = cc

module _ (name calendar_name : List ℕ) (failed : Option (List ℕ)) (why : Status) where
  -- a status that is no read fault names no file
  pub of_none : ((which : FileId) → why ≢ ReadFault which) → IsFaultOfRead name calendar_name failed why
  of_none other = record {
    base = λ same. absurd (other file.Base same);
    calendar = λ same. absurd (other file.Calendar same);
  }

  -- the refusal of a base names the base
  pub of_base : (t : FileTold) → IsBaseRefusal t why → ((which : FileId) → why ≡ ReadFault which → IsFaultOf failed name)
      → IsFaultOfRead name calendar_name failed why
  of_base t refused whose = record {
    base = λ same. whose file.Base same;
    calendar = λ same. absurd (base_is_no_calendar (subst (IsBaseRefusal t) same refused));
  }

  -- the refusal of a calendar names the calendar
  pub of_calendar : (names : List (List ℕ)) (t : FileTold) → IsCalendarRefusal names t why
      → ((which : FileId) → why ≡ ReadFault which → IsFaultOf failed calendar_name) → IsFaultOfRead name calendar_name failed why
  of_calendar names t refused whose = record {
    base = λ same. absurd (calendar_is_no_base (subst (IsCalendarRefusal names t) same refused));
    calendar = λ same. whose file.Calendar same;
  }
