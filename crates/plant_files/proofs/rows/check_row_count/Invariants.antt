use Rattle.std.proofs.Common.{◌≡◌, ◌-◌, ◌^◌, map, min, take}
use Rattle.plant_files.specs.{row_count}
use Rattle.plant_files.proofs.rows.check_row_count.Given as goal

abbrev pub invariant-loop-rows : goal.invariant-loop-rows
invariant-loop-rows l = record {
  counted : l.count ≡ min (row_count (map (λ rows. rows.items) (take l.rows-index l.collectors))) (2 ^ 64 - 1);
}
