use Rattle.std.proofs.Common.{◌≡◌, ◌<◌, ◌-◌, All, length, map, vec_len}
use Rattle.trend_num.specs.{InRange}
use Rattle.run_command.specs.{drill_rows_of}
use Rattle.run_command.proofs.drill_plant.drill_files.Given as goal

abbrev pub invariant-loop-tag : goal.invariant-loop-tag
invariant-loop-tag l = record {
  rows : map (λ file. file.items) l.files.items ≡ drill_rows_of l.number l.tag l.from l.to;
  of_tags : All (λ file. All (λ row. row.tag < l.tags) file.items) l.files.items;
  in_range : All (λ file. All (λ row. InRange row.point) file.items) l.files.items;
  as_many : All (λ file. length file.items ≡ l.to - l.from) l.files.items;
  many : vec_len l.files ≡ l.tag;
}
