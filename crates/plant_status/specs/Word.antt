-- The words that a line has for files, units, reasons, quantities and bytes.
use Rattle.std.specs.Prelude.{ℕ, ◌+◌, ◌/◌, ◌%◌, List, [], ◌∷◌, ◌++◌, codes, nat_lt, Option, None, Some, if◌then◌else◌}
use Rattle.std.specs.Fmt.{decimal}
use Rattle.trend_num.specs.{Reason, What}
use Rattle.trend_num.specs.declared.refusal.Reason.TheVariants.{Fields, Verb, Name, Number, Range}
use Rattle.trend_num.specs.declared.refusal.What.TheVariants.{FileBytes, TextBytes, Rows, Tags, Collectors, Readers, Queries, Groups, Calcs, Records, StoreRecords, Copies, Cells}
use Rattle.plant_status.specs.declared.unit.Unit.{Unit}
use Rattle.plant_status.specs.declared.unit.Unit.TheVariants.{Tag, Group, Log}
use Rattle.plant_status.specs.declared.file.FileId.{FileId}
use Rattle.plant_status.specs.declared.file.FileId.TheVariants.{Input, Base, Plan, Calendar, Collector, Reader}

-- collectors and readers are numbered from 0 in a status, and from 1 in a line
abbrev pub file_text : FileId → List ℕ
file_text Input = codes "input"
file_text Base = codes "base"
file_text Plan = codes "plan"
file_text Calendar = codes "calendar"
file_text (Collector n) = codes "collector " ++ decimal (n + 1)
file_text (Reader n) = codes "reader " ++ decimal (n + 1)

-- units are numbered from 0 in a base, and from 1 in a line
abbrev pub unit_text : Unit → List ℕ
unit_text (Tag n) = codes "tag " ++ decimal (n + 1)
unit_text (Group n) = codes "group " ++ decimal (n + 1)
unit_text Log = codes "log"

-- the digit of a number below 16: `0` to `9`, `a` to `f`
abbrev pub hex_digit : ℕ → ℕ
hex_digit d = if nat_lt d 10 then 48 + d else 87 + d

-- a byte as two digits, or `end` if there is none
abbrev pub byte_word : Option ℕ → List ℕ
byte_word None = codes "end"
byte_word (Some b) = hex_digit (b / 16) ∷ hex_digit (b % 16) ∷ []

abbrev pub reason_word : Reason → List ℕ
reason_word Fields = codes "fields"
reason_word Verb = codes "verb"
reason_word Name = codes "name"
reason_word Number = codes "number"
reason_word Range = codes "range"

abbrev pub what_word : What → List ℕ
what_word FileBytes = codes "file_bytes"
what_word TextBytes = codes "text_bytes"
what_word Rows = codes "rows"
what_word Tags = codes "tags"
what_word Collectors = codes "collectors"
what_word Readers = codes "readers"
what_word Queries = codes "queries"
what_word Groups = codes "groups"
what_word Calcs = codes "calcs"
what_word Records = codes "records"
what_word StoreRecords = codes "store_records"
what_word Copies = codes "copies"
what_word Cells = codes "cells"
