-- What the bytes of a base say.
use Rattle.std.specs.Prelude.{◌≡◌, ℕ, if◌then◌else◌, List, [], ◌∷◌, length, map, codes, Option, None, Some, option_and_then, option_map, Result, Ok, Err}
use Rattle.toml.specs.Data.{Members}
use Rattle.toml.specs.View.{table_view}
use Rattle.toml_tables.specs.{document, has_keys}
use Rattle.trend_num.specs.declared.refusal.What.TheVariants.{Tags, Groups}
use Rattle.trend_num.specs.{TagDef}
use Rattle.tag_base.specs.declared.definition.GroupDef.{GroupDef}
use Rattle.tag_base.specs.declared.base.BaseTables.{BaseTables}
use Rattle.tag_base.specs.declared.definition.Base.{Base}
use Rattle.tag_base.specs.declared.refusal.TextNo.{TextNo}
use Rattle.tag_base.specs.Answers.{broken, limited, where_given, Follows}
use Rattle.tag_base.specs.Tables.{tables_at, tables_if_there}
use Rattle.tag_base.specs.Tags.{tags_after}
use Rattle.tag_base.specs.Groups.{GroupsRead}

-- the most tags and groups of a base
abbrev pub most_tags : ℕ
most_tags = 1024

abbrev pub most_groups : ℕ
most_groups = 16

-- the tables of tags and of groups
pub record BaseForm : Type 0 where
  pub tags : List Members
  pub groups : List Members

abbrev pub tables_of : BaseTables → BaseForm
tables_of tables =
    record {
      tags = map (λ t. table_view t.now) tables.tags.items;
      groups = map (λ t. table_view t.now) tables.groups.items;
    }

-- one table or more
abbrev pub some_tables : List Members → Option (List Members)
some_tables [] = None
some_tables (ms ∷ mss) = Some (ms ∷ mss)

-- the tables of a document with the key `tag` and the optional key `group`
abbrev pub base_arrays : Members → Option BaseForm
base_arrays ms =
    if has_keys (codes "tag" ∷ []) (codes "group" ∷ []) ms
    then option_and_then (λ tags. option_map (λ groups. record { tags = tags; groups = groups })
    (tables_if_there (codes "group") ms))
    (option_and_then some_tables (tables_at (codes "tag") ms))
    else None

-- The tables of a document, if the bytes are one. Rule 1 asks for a document, and rule 2 for its arrays. Then the
-- limits of tags and of groups are checked.
abbrev pub base_tables : Option Members → Result BaseForm TextNo
base_tables found =
    where_given found (broken 1 0) (λ ms.
    where_given (base_arrays ms) (broken 2 0) (λ tables.
    limited Tags most_tags (length tables.tags)
    (limited Groups most_groups (length tables.groups)
    (Ok tables))))

-- a base of these tags and groups
abbrev pub IsBaseOf : List TagDef → List GroupDef → Result Base TextNo → Type 0
IsBaseOf tags groups (Ok base) = (base.tags.items ≡ tags) × (base.groups.items ≡ groups)
IsBaseOf tags groups (Err why) = ⊥

-- the answer to the tables of a base: the tags come first, and then the groups
abbrev pub TablesRead : BaseForm → Result Base TextNo → Type 0
TablesRead tables = Follows (tags_after [] tables.tags)
    (λ tags answer. (groups : Result (List GroupDef) TextNo)
    × GroupsRead tags [] tables.groups groups × Follows groups (IsBaseOf tags) answer)

-- the answer to bytes that are read as a base
abbrev pub BaseRead : List ℕ → Result Base TextNo → Type 0
BaseRead bytes = Follows (base_tables (document bytes)) TablesRead
