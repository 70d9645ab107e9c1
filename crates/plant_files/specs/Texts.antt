-- The base and the plan of a plant, each the text of a file.
use Rattle.std.specs.Prelude.{◌≡◌, ◌⊎◌, ℕ, List, map, ⊤, Ok, Err}
use Rattle.byte_io.specs.{FileTold}
use Rattle.trend_num.specs.declared.refusal.What.TheVariants.{TextBytes}
use Rattle.trend_num.specs.{TagDef}
use Rattle.tag_base.specs.Bases.{BaseRead}
use Rattle.tag_base.specs.Plans.{plan_parts, plan as plan_read}
use Rattle.tag_base.specs.{Base, GroupDef, Plan, TextNo}
use Rattle.tag_base.specs.declared.refusal.TextNo.TheVariants as text_no
use Rattle.plant_status.specs.{FileId}
use Rattle.plant_status.specs.declared.file.FileId.TheVariants as file_id
use Rattle.plant_status.specs.declared.status.Status.{Status}
use Rattle.plant_status.specs.declared.status.Status.TheVariants.{ReadFault, Limit, BadText, WantOfMemory}
use Rattle.plant_files.specs.Reading.{IsReadWholeAs, IsTooLong}

-- the most bytes of a base or a plan
abbrev pub most_text_bytes : ℕ
most_text_bytes = 1048576

-- ---- refusals

-- the status of a file whose text is refused for this reason
abbrev pub text_status : FileId → TextNo → Status
text_status file (text_no.BadText rule place at) = BadText file rule place at
text_status file (text_no.Limit what number) = Limit what number
text_status file text_no.WantOfMemory = WantOfMemory

-- the status says why a text is not read from its file; the predicate says for which reasons a text is refused
abbrev pub IsTextRefusal : FileId → (List ℕ → TextNo → Type 0) → FileTold → Status → Type 0
IsTextRefusal file IsRefused told (ReadFault which) = which ≡ file
IsTextRefusal file IsRefused told (Limit what number) = IsTooLong TextBytes most_text_bytes told what number
    ⊎ IsReadWholeAs told most_text_bytes (λ bytes. IsRefused bytes (text_no.Limit what number))
IsTextRefusal file IsRefused told (BadText which rule place at) =
    (which ≡ file) × IsReadWholeAs told most_text_bytes (λ bytes. IsRefused bytes (text_no.BadText rule place at))
IsTextRefusal file IsRefused told WantOfMemory = ⊤
IsTextRefusal file IsRefused told other = ⊥

-- ---- the base

-- the names of tags in order
abbrev pub tag_names : List TagDef → List (List ℕ)
tag_names tags = map (λ t. t.name) tags

-- the base that a file spells
abbrev pub IsBaseFile : FileTold → Base → Type 0
IsBaseFile told base = IsReadWholeAs told most_text_bytes (λ bytes. BaseRead bytes (Ok base))

-- the status says why a base is not read
abbrev pub IsBaseRefusal : FileTold → Status → Type 0
IsBaseRefusal told why = IsTextRefusal file_id.Base (λ bytes no. BaseRead bytes (Err no)) told why

-- ---- the plan

-- the plan that a file spells over the groups of a base
abbrev pub IsPlanFile : List GroupDef → FileTold → Plan → Type 0
IsPlanFile groups told plan =
    IsReadWholeAs told most_text_bytes (λ bytes. plan_read groups bytes ≡ Ok (plan_parts plan))

-- the status says why a plan is not read
abbrev pub IsPlanRefusal : List GroupDef → FileTold → Status → Type 0
IsPlanRefusal groups told why =
    IsTextRefusal file_id.Plan (λ bytes no. plan_read groups bytes ≡ Err no) told why
