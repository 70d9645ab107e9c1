-- What the readers of a plan ask. The queries of a reader are the rows of a file.
use Rattle.std.specs.Prelude.{◌≡◌, ◌≢◌, ℕ, ◌-◌, ◌^◌, ◌<◌, ◌≤◌, min, List, [], ◌∷◌, length, slice_get, ⊤}
use Rattle.std.specs.Option.{option_map_or}
use Rattle.byte_io.specs.{FileTold}
use Rattle.trend_num.specs.declared.refusal.What.TheVariants.{Queries}
use Rattle.calc_check.specs.Group.{Calculation, names_of}
use Rattle.tag_base.specs.{Base, GroupDef}
use Rattle.trend_num.specs.{IsTagQuery}
use Rattle.value_rows.specs.{last_window, query_rows, GroupNames, Query}
use Rattle.value_rows.specs.declared.asked.Query.TheVariants.{Tag, Snap, Row}
use Rattle.plant_status.specs.{FileId}
use Rattle.plant_status.specs.declared.file.FileId.TheVariants.{Reader}
use Rattle.plant_status.specs.declared.status.Status.{Status}
use Rattle.plant_status.specs.declared.status.Status.TheVariants.{WantOfMemory}
pub use Rattle.plant_files.specs.RowFiles.{ToldFiles}
use Rattle.plant_files.specs.RowFiles.{AreRowFiles, IsFirstRefused, IsRowFile, IsRowRefusal}
use Rattle.plant_files.specs.Texts.{tag_names}

-- the most queries of a reader
abbrev pub most_queries : ℕ
most_queries = 4096

-- ---- the names that queries use

-- the names of a group and of its calculations
pub record IsNamed (group : GroupDef) (names : GroupNames) : Type 0 where
  pub name : names.name ≡ group.name
  pub calcs : names.calcs.items ≡ names_of group.calcs.calcs

-- the names of each group and of its calculations, in order
abbrev pub AreNamed : List GroupDef → List GroupNames → Type 0
AreNamed [] [] = ⊤
AreNamed (g ∷ gs) (n ∷ ns) = IsNamed g n × AreNamed gs ns
AreNamed groups names = ⊥

-- the calculations of the group at a place
abbrev pub asked_calcs_at : List GroupDef → ℕ → List Calculation
asked_calcs_at groups place = option_map_or (λ g. g.calcs.calcs) (slice_get groups place) []

-- a query of a tag of a base, or of one of its groups and one of that group's calculations
abbrev pub IsQueryOfBase : Base → Query → Type 0
IsQueryOfBase base (Tag tag query) = (tag < length base.tags.items) × IsTagQuery query
IsQueryOfBase base (Snap tag) = tag < length base.tags.items
IsQueryOfBase base (Row group calc k) = (group < length base.groups.items)
    × (calc < length (asked_calcs_at base.groups.items group)) × (k ≤ last_window)

-- ---- one file

-- the queries of a file over these names of tags and of groups
abbrev pub IsReaderFile : List (List ℕ) → List GroupNames → FileTold → List Query → Type 0
IsReaderFile tags groups told queries = IsRowFile (query_rows tags groups most_queries) told queries

-- the status says why the queries of a file are not read
abbrev pub IsReaderRefusal : List (List ℕ) → List GroupNames → FileId → FileTold → Status → Type 0
IsReaderRefusal tags groups file told why =
    IsRowRefusal Queries most_queries (query_rows tags groups most_queries) file told why

-- ---- the files of all readers

-- the queries of files over these names: each file's, in order
abbrev pub AreReaderFiles : List (List ℕ) → List GroupNames → ToldFiles → List (List ℕ) → List (List Query)
    → Type 0
AreReaderFiles tags groups told files lists = AreRowFiles (IsReaderFile tags groups) told files lists

-- the reader at a place. The number stays at the end of its type
abbrev pub reader_at : ℕ → FileId
reader_at place = Reader (min place (2 ^ 32 - 1))

-- the queries of the first readers' files are read, and then one file is refused with this status
abbrev pub IsReaderRefused : List (List ℕ) → List GroupNames → ToldFiles → List (List ℕ) → Status → Type 0
IsReaderRefused tags groups told files why = IsFirstRefused (IsReaderFile tags groups)
    (λ place. IsReaderRefusal tags groups (reader_at place)) told files why

-- the queries of files over the names of a base
pub record AreQueries (base : Base) (told : ToldFiles) (files : List (List ℕ))
    (lists : List (List Query)) : Type 0 where
  pub groups : List GroupNames
  pub named : AreNamed base.groups.items groups
  pub asked : AreReaderFiles (tag_names base.tags.items) groups told files lists

-- a file is the first that is refused over the names of a base, with this status
pub record IsRefusedFirst (base : Base) (told : ToldFiles) (files : List (List ℕ))
    (why : Status) : Type 0 where
  pub groups : List GroupNames
  pub named : AreNamed base.groups.items groups
  pub first : IsReaderRefused (tag_names base.tags.items) groups told files why

-- the status says why the queries of files are not read; want of memory may come at any time
abbrev pub IsQueriesRefusal : Base → ToldFiles → List (List ℕ) → Status → Type 0
IsQueriesRefusal base told files why = why ≢ WantOfMemory → IsRefusedFirst base told files why
