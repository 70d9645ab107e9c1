use Rattle.std.proofs.Common.{◌≡◌, All, map, take}
use Rattle.calc_refresh.specs.{IsCopy}
use Rattle.plant_store.specs.{cell_records_in}
use Rattle.plant_store.proofs.opening.records_of.Given as goal

abbrev pub invariant-loop-cell : goal.invariant-loop-cell
invariant-loop-cell g l = record {
  lists : map (λ r. r.now) l.records.items ≡ cell_records_in (take l.cell-index l.cells);
  copied : All (λ r. IsCopy r.now) l.records.items;
}
