-- What `shifts` prints, and why it prints nothing.
use Rattle.std.specs.Prelude.{◌≡◌, ◌≢◌, ℕ, ℤ, List, Option}
use Rattle.byte_io.specs.{IsFaultOf}
use Rattle.tag_core.specs.Core.{Core}
use Rattle.tag_base.specs.{Base}
use Rattle.plant_status.specs.declared.status.Status.{Status}
use Rattle.plant_status.specs.declared.status.Status.TheVariants.{BadWords, Done, ReadFault, WantOfMemory, WriteFault}
use Rattle.plant_status.specs.declared.file.FileId.TheVariants as file
use Rattle.plant_files.specs.{ToldFiles, IsBaseFile, IsBaseRefusal, tag_names}
use Rattle.plant_store.specs.TagRefusals.{IsRefusal}
use Rattle.plant_store.specs.{AreUntouched, IsOpenedBase}
use Rattle.plant_store.specs.Groups.{DeviceTraces}
use Rattle.shift_calendar.specs.{CalendarParts, AreWindows, shifts_over, ShiftWindow}
use Rattle.plant_more.specs.CalendarFile.{IsCalendarFile, IsCalendarRefusal}
use Rattle.plant_more.specs.ShiftLines.{AreShiftLines}

-- A base was read and opened, and the calendar was read from the file of this name. The windows are those of the shifts
-- of so many days from this day on. The text has their lines.
pub record IsShifts (name calendar_name : List ℕ) (day : ℤ) (days : ℕ) (told : ToldFiles) (old : DeviceTraces) (text : List ℕ)
    : Type 0 where
  pub base : Base
  pub cal : CalendarParts
  pub cores : List Core
  pub windows : List ShiftWindow
  pub opened : IsOpenedBase name told old base cores
  pub calendar : IsCalendarFile (tag_names base.tags.items) (told calendar_name) cal
  pub shifts : AreWindows cal.zone (shifts_over cal.starts day days) windows
  pub lines : AreShiftLines base.tags.items cores cal windows text

-- The refusals, in order: of the base, of the calendar, of a tag. No device has changed before a refusal of a tag. A
-- lack of memory may come at any time.
pub data IsShiftsRefusal (name calendar_name : List ℕ) (told : ToldFiles) (old new : DeviceTraces) (before now : ℕ) (why : Status)
    : Type 0 where
  OfBase : IsBaseRefusal (told name) why → AreUntouched old new → IsShiftsRefusal name calendar_name told old new before now why
  OfCalendar : (base : Base) → IsBaseFile (told name) base
      → IsCalendarRefusal (tag_names base.tags.items) (told calendar_name) why → AreUntouched old new
      → IsShiftsRefusal name calendar_name told old new before now why
  OfTag : (base : Base) (cal : CalendarParts) → IsBaseFile (told name) base
      → IsCalendarFile (tag_names base.tags.items) (told calendar_name) cal → IsRefusal base.tags.items old new before now why
      → IsShiftsRefusal name calendar_name told old new before now why
  OfMemory : why ≡ WantOfMemory → IsShiftsRefusal name calendar_name told old new before now why

-- If the status reports a read fault, and it is known whose read failed last, then that is the file in the status.
pub record IsFaultOfRead (name calendar_name : List ℕ) (failed : Option (List ℕ)) (why : Status) : Type 0 where
  pub base : why ≡ ReadFault file.Base → IsFaultOf failed name
  pub calendar : why ≡ ReadFault file.Calendar → IsFaultOf failed calendar_name

-- a refusal after good words and before anything was printed
pub record IsCommandRefusal (why : Status) : Type 0 where
  pub no_end : why ≢ Done
  pub no_words : why ≢ BadWords
  pub no_write : why ≢ WriteFault
