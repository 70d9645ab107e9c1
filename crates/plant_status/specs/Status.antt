-- The exit code of each status, and the line that it prints.
use Rattle.std.specs.Prelude.{ℕ, ◌+◌, List, [], ◌++◌, codes}
use Rattle.std.specs.Fmt.{decimal}
use Rattle.plant_status.specs.declared.status.Status.{Status}
use Rattle.plant_status.specs.declared.status.Status.TheVariants.{Done, BadWords, BadText, BadRow, ReadFault, WriteFault, DeviceFault, Damaged, OtherTag, Limit, Mismatch, Halted, WantOfMemory, OtherPlant, BadName}
use Rattle.plant_status.specs.Word.{file_text, unit_text, byte_word, reason_word, what_word}

abbrev pub code_of : Status → ℕ
code_of Done = 0
code_of BadWords = 2
code_of (BadText _ _ _ _) = 3
code_of (BadRow _ _ _) = 4
code_of (ReadFault _) = 5
code_of WriteFault = 6
code_of (DeviceFault _) = 7
code_of (Damaged _ _ _) = 8
code_of (OtherTag _ _ _) = 9
code_of (Limit _ _) = 10
code_of (Mismatch _ _ _) = 11
code_of (Halted _) = 12
code_of WantOfMemory = 13
code_of (OtherPlant _) = 15
code_of (BadName _) = 16

-- the line with its line feed, or no bytes at all
abbrev pub status_line_of : Status → List ℕ
status_line_of Done = []
status_line_of BadWords = codes "fault: words\n"
status_line_of (BadText file rule place at) =
    codes "fault: text " ++ file_text file ++ codes " rule " ++ decimal rule ++ codes " place "
    ++ decimal place ++ codes " at " ++ decimal at ++ codes "\n"
status_line_of (BadRow file row reason) =
    codes "fault: row " ++ file_text file ++ codes " " ++ decimal row ++ codes " " ++ reason_word reason
    ++ codes "\n"
status_line_of (ReadFault file) = codes "fault: read " ++ file_text file ++ codes "\n"
status_line_of WriteFault = []
status_line_of (DeviceFault unit) = codes "fault: device " ++ unit_text unit ++ codes "\n"
status_line_of (Damaged unit at byte) =
    codes "fault: damaged " ++ unit_text unit ++ codes " " ++ decimal at ++ codes " " ++ byte_word byte
    ++ codes "\n"
status_line_of (OtherTag tag _ _) = codes "fault: other tag " ++ decimal (tag + 1) ++ codes "\n"
status_line_of (Limit what number) = codes "fault: limit " ++ what_word what ++ codes " " ++ decimal number
    ++ codes "\n"
status_line_of (Mismatch _ _ _) = codes "fault: mismatch\n"
status_line_of (Halted worker) = codes "fault: halted " ++ decimal worker ++ codes "\n"
status_line_of WantOfMemory = codes "fault: memory\n"
status_line_of (OtherPlant at) = codes "fault: other plant " ++ decimal at ++ codes "\n"
status_line_of (BadName word) = codes "fault: name " ++ decimal word ++ codes "\n"

-- a run that ended well prints no line, and neither does one that could not write
abbrev pub IsSilent : Status → Type 0
IsSilent Done = Unit {0}
IsSilent WriteFault = Unit {0}
IsSilent other = ⊥
