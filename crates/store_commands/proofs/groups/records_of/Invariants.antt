use Rattle.std.proofs.Common.{◌≡◌, All, map, take}
use Rattle.calc_refresh.specs.{IsCopy}
use Rattle.store_commands.specs.GroupRows.{tag_records}
use Rattle.store_commands.proofs.groups.records_of.Given as goal

abbrev pub invariant-loop-core : goal.invariant-loop-core
invariant-loop-core l = record {
  lists : map (λ r. r.now) l.records.items ≡ tag_records (take l.core-index l.cores);
  copied : All (λ r. IsCopy r.now) l.records.items;
}
