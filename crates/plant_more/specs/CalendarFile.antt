-- The calendar of a plant, read from the text of a file.
use Rattle.std.specs.Prelude.{◌≡◌, ℕ, List, ⊤, Ok, Err}
use Rattle.byte_io.specs.{FileTold}
use Rattle.trend_num.specs.declared.refusal.What.TheVariants.{TextBytes}
use Rattle.plant_status.specs.{FileId}
use Rattle.plant_status.specs.declared.file.FileId.TheVariants as file
use Rattle.plant_status.specs.declared.status.Status.{Status}
use Rattle.plant_status.specs.declared.status.Status.TheVariants.{BadText, Limit, ReadFault, WantOfMemory}
use Rattle.plant_files.specs.Reading.{IsReadWholeAs, IsTooLong}
use Rattle.plant_files.specs.{most_text_bytes}
use Rattle.shift_calendar.specs.{CalendarParts, calendar, calendar_form_of, CalNo}
use Rattle.shift_calendar.specs.declared.refusal.CalNo.TheVariants as no

-- the file spells this calendar over these names of tags
abbrev pub IsCalendarFile : List (List ℕ) → FileTold → CalendarParts → Type 0
IsCalendarFile names told cal = IsReadWholeAs told most_text_bytes (λ bytes. calendar names bytes ≡ Ok (calendar_form_of cal))

-- The text breaks this rule first. The rules of a calendar are about the whole text, so the status names no table and
-- no place in it.
pub record IsBadCalendar (names : List (List ℕ)) (told : FileTold) (which : FileId) (rule place at : ℕ) : Type 0 where
  pub file : which ≡ file.Calendar
  pub table : place ≡ 0
  pub start : at ≡ 0
  pub broken : IsReadWholeAs told most_text_bytes (λ bytes. calendar names bytes ≡ Err (no.BadText rule))

-- why a calendar is not read, for each status
abbrev pub IsCalendarRefusal : List (List ℕ) → FileTold → Status → Type 0
IsCalendarRefusal names told (ReadFault which) = which ≡ file.Calendar
IsCalendarRefusal names told (Limit what number) = IsTooLong TextBytes most_text_bytes told what number
IsCalendarRefusal names told (BadText which rule place at) = IsBadCalendar names told which rule place at
IsCalendarRefusal names told WantOfMemory = ⊤
IsCalendarRefusal names told other = ⊥

-- the status for a calendar whose text is refused for this reason
abbrev pub calendar_status : CalNo → Status
calendar_status (no.BadText rule) = BadText file.Calendar rule 0 0
calendar_status no.WantOfMemory = WantOfMemory
