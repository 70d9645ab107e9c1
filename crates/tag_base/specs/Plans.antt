-- What the bytes of a plan say.
use Rattle.std.specs.Prelude.{ℕ, Bool, if◌then◌else◌, ◌&&◌, List, [], ◌∷◌, ◌++◌, length, map, nat_eq, nat_le, codes, Option, None, Some, option_and_then, option_map, Result, Ok}
use Rattle.std.specs.List.{list_any}
use Rattle.toml.specs.Data.{Members}
use Rattle.toml.specs.View.{table_view}
use Rattle.toml_tables.specs.{document, has_keys, string_at}
use Rattle.trend_num.specs.declared.refusal.What.TheVariants.{Collectors, Readers}
use Rattle.tag_base.specs.declared.definition.GroupDef.{GroupDef}
use Rattle.tag_base.specs.declared.plan.PlanTables.{PlanTables}
use Rattle.tag_base.specs.declared.schedule.Refresher.{Refresher}
use Rattle.tag_base.specs.declared.schedule.Plan.{Plan}
use Rattle.tag_base.specs.declared.refusal.TextNo.{TextNo}
use Rattle.tag_base.specs.Answers.{broken, limited, where_given, after_step}
use Rattle.tag_base.specs.Tables.{number_at, tables_if_there}
use Rattle.tag_base.specs.Groups.{group_place}

-- the most collectors, and the most readers, of a plan; the most turns of a refresher
abbrev pub most_files : ℕ
most_files = 16

abbrev pub most_turns : ℕ
most_turns = 1000

-- a plan: the names of the files of its collectors and of its readers, and its refreshers
pub record PlanParts : Type 0 where
  pub collectors : List (List ℕ)
  pub readers : List (List ℕ)
  pub refreshers : List Refresher

abbrev pub plan_parts : Plan → PlanParts
plan_parts plan =
    record {
      collectors = plan.collectors.items;
      readers = plan.readers.items;
      refreshers = plan.refreshers.items;
    }

-- the tables of collectors, of readers and of refreshers
pub record PlanForm : Type 0 where
  pub collectors : List Members
  pub readers : List Members
  pub refreshers : List Members

abbrev pub tables_of : PlanTables → PlanForm
tables_of tables = record {
  collectors = map (λ t. table_view t.now) tables.collectors.items;
  readers = map (λ t. table_view t.now) tables.readers.items;
  refreshers = map (λ t. table_view t.now) tables.refreshers.items;
}

abbrev pub plan_keys : List (List ℕ)
plan_keys = codes "collector" ∷ codes "reader" ∷ codes "refresher" ∷ []

-- the tables of a document that has no other keys than these three
abbrev pub plan_arrays : Members → Option PlanForm
plan_arrays ms =
    if has_keys [] plan_keys ms
    then option_and_then (λ collectors. option_and_then (λ readers.
    option_map (λ refreshers. record { collectors = collectors; readers = readers; refreshers = refreshers })
    (tables_if_there (codes "refresher") ms))
    (tables_if_there (codes "reader") ms)) (tables_if_there (codes "collector") ms)
    else None

-- whether bytes are a file name: 1 to 255 bytes
abbrev pub is_file_name : List ℕ → Bool
is_file_name bytes = nat_le 1 (length bytes) && nat_le (length bytes) 255

-- the file name of a table that has nothing else
abbrev pub file_of : Members → Option (List ℕ)
file_of ms =
    if has_keys (codes "file" ∷ []) [] ms
    then option_and_then (λ text. if is_file_name text then Some text else None) (string_at (codes "file") ms)
    else None

-- the files of tables, in order, after some files; a table that breaks the rule is refused with this number
abbrev pub files_after : ℕ → List (List ℕ) → List Members → Result (List (List ℕ)) TextNo
files_after rule earlier [] = Ok earlier
files_after rule earlier (ms ∷ mss) =
    where_given (file_of ms) (broken rule (length earlier)) (λ file. files_after rule (earlier ++ file ∷ []) mss)

-- whether one of these refreshers has the group at a place
abbrev pub is_refreshed : List Refresher → ℕ → Bool
is_refreshed refreshers place = list_any (λ r. nat_eq r.group place) refreshers

-- the place of the group that a table names, if no earlier refresher has it
abbrev pub new_group : List GroupDef → List Refresher → Members → Option ℕ
new_group groups earlier ms =
    option_and_then (λ place. if is_refreshed earlier place then None else Some place)
    (option_and_then (group_place groups) (string_at (codes "group") ms))

-- the refresher of a table, after some refreshers
abbrev pub refresher_of : List GroupDef → List Refresher → Members → Option Refresher
refresher_of groups earlier ms =
    if has_keys (codes "group" ∷ codes "turns" ∷ []) [] ms
    then option_and_then (λ group. option_map (λ turns. record { group = group; turns = turns })
    (number_at (codes "turns") 0 most_turns ms))
    (new_group groups earlier ms)
    else None

abbrev pub refreshers_after : List GroupDef → List Refresher → List Members → Result (List Refresher) TextNo
refreshers_after groups earlier [] = Ok earlier
refreshers_after groups earlier (ms ∷ mss) =
    where_given (refresher_of groups earlier ms) (broken 5 (length earlier))
    (λ r. refreshers_after groups (earlier ++ r ∷ []) mss)

-- The tables of a document, if the bytes are one. Rule 1 asks for a document, and rule 2 for its arrays. Then the
-- limits of collectors and of readers are checked.
abbrev pub plan_tables : Option Members → Result PlanForm TextNo
plan_tables found =
    where_given found (broken 1 0) (λ ms.
    where_given (plan_arrays ms) (broken 2 0) (λ tables.
    limited Collectors most_files (length tables.collectors)
    (limited Readers most_files (length tables.readers)
    (Ok tables))))

-- the plan of bytes over the groups of a base; rule 3 is for collectors, 4 for readers, 5 for refreshers
abbrev pub plan : List GroupDef → List ℕ → Result PlanParts TextNo
plan groups bytes =
    after_step (plan_tables (document bytes)) (λ tables.
    after_step (files_after 3 [] tables.collectors) (λ collectors.
    after_step (files_after 4 [] tables.readers) (λ readers.
    after_step (refreshers_after groups [] tables.refreshers) (λ refreshers.
    Ok (record { collectors = collectors; readers = readers; refreshers = refreshers })))))
