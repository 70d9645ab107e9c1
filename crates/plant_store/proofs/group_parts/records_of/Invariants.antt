use Rattle.std.proofs.Common.{◌≡◌, [], All, get_or, map, take}
use Rattle.calc_refresh.specs.{lists_of, IsCopy}
use Rattle.plant_store.proofs.group_parts.records_of.Given as goal

abbrev pub invariant-loop-tag : goal.invariant-loop-tag
invariant-loop-tag l = record {
  lists_are : lists_of l.lists.items ≡ map (λ tag. get_or (map (λ r. r.now) l.records) tag []) (take l.tag-index l.tags);
  copied : All IsCopy (lists_of l.lists.items);
}
