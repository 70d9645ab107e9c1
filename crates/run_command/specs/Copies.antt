-- The records that groups have of their inputs, compared with those of the tags.
use Rattle.std.specs.Prelude.{◌≡◌, ℕ, ◌<◌, List, [], Some, length, slice_get, slice_index, slice_index_or, take, ⊤}
use Rattle.trend_num.specs.{Rec}
use Rattle.calc_refresh.specs.{lists_of}
use Rattle.group_book.specs.{GroupHistory}
use Rattle.plant_status.specs.declared.mismatch.Place.TheVariants.{Version}
use Rattle.plant_status.specs.{Seen}
use Rattle.plant_status.specs.declared.status.Status.{Status}
use Rattle.plant_status.specs.declared.status.Status.TheVariants.{Mismatch, WantOfMemory}
use Rattle.tag_base.specs.{Base, GroupDef}
use Rattle.session_audit.specs.{RecordsDiffer}
use Rattle.session_report.specs.{Session}
use Rattle.run_command.specs.Units.{AtEachGroup, tag_records_of}

-- the records that a group has of an input
abbrev pub copy_of : GroupHistory → ℕ → List Rec
copy_of g input = slice_index_or (lists_of g.copies.items) input []

-- the records of an input's tag
abbrev pub input_of : Session → GroupDef → ℕ → List Rec
input_of s d input = tag_records_of s (slice_index d.inputs.items input)

-- what a group has of an input are the first records of the input's tag
abbrev pub IsCopied : Session → GroupDef → GroupHistory → ℕ → Type 0
IsCopied s d g input = copy_of g input ≡ take (length (copy_of g input)) (input_of s d input)

-- the same of each of its inputs
pub record AreCopied (s : Session) (d : GroupDef) (g : GroupHistory) : Type 0 where
  pub each : (input : ℕ) → input < length d.inputs.items → IsCopied s d g input

-- The status is a mismatch at the version of an input of a group. What the group has of that input are not the first records
-- of its tag; of the inputs before it they are.
pub record IsInputUncopied (s : Session) (group : ℕ) (d : GroupDef) (g : GroupHistory) (why : Status) : Type 0 where
  pub input : ℕ
  pub kept : Seen
  pub told : Seen
  pub why_is : why ≡ Mismatch (Version group input) kept told
  pub within : input < length d.inputs.items
  pub differs : RecordsDiffer (input_of s d input) (copy_of g input) kept told
  pub front : (k : ℕ) → k < input → IsCopied s d g k

-- the status is a mismatch of that kind; each group before that one has first records of its inputs' tags
pub record IsGroupUncopied (base : Base) (s : Session) (why : Status) : Type 0 where
  pub group : ℕ
  pub def : GroupDef
  pub its : GroupHistory
  pub def_there : slice_get base.groups.items group ≡ Some def
  pub there : slice_get s.groups.items group ≡ Some its
  pub differs : IsInputUncopied s group def its why
  pub front : (k : ℕ) (d : GroupDef) (g : GroupHistory) → k < group
      → AreCopied s (slice_index_or base.groups.items k d) (slice_index_or s.groups.items k g)

-- The refusals after which groups may have other records than their inputs' tags: any mismatch, and want of memory.
abbrev pub MayBeUncopied : Status → Type 0
MayBeUncopied (Mismatch place kept told) = ⊤
MayBeUncopied WantOfMemory = ⊤
MayBeUncopied other = ⊥

-- What a session reports of a refusal. It is the refusal itself, and unless that is one of those above, each group has first
-- records of its inputs' tags. Or the refusal is none of those, and a group has other records: then it is that mismatch.
pub data IsChecked (base : Base) (s : Session) (came now : Status) : Type 0 where
  AsItCame : now ≡ came → ((MayBeUncopied came → ⊥) → AtEachGroup base s (λ i d g. AreCopied s d g)) → IsChecked base s came now
  AsUncopied : (MayBeUncopied came → ⊥) → IsGroupUncopied base s now → IsChecked base s came now
