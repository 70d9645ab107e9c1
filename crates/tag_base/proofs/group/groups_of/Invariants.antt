use Rattle.std.proofs.Common.{◌≡◌, List, [], map, drop, length, vec_len, All, Result}
use Rattle.toml.specs.View.{table_view}
use Rattle.tag_base.specs.{GroupDef, TextNo, GroupsRead, IsSoundGroup}
use Rattle.tag_base.proofs.group.groups_of.Given as goal

abbrev pub invariant-loop-table : goal.invariant-loop-table
invariant-loop-table l = record {
  read : (answer : Result (List GroupDef) TextNo) → GroupsRead l.tags l.groups.items (map (λ t. table_view t.now) (drop l.table-index l.tables)) answer
      → GroupsRead l.tags [] (map (λ t. table_view t.now) l.tables) answer;
  sound : All (IsSoundGroup (length l.tags)) l.groups.items;
  as_many : vec_len l.groups ≡ l.table-index;
}
