use Rattle.std.proofs.Common.{All, take}
use Rattle.trend_num.specs.{IsName}
use Rattle.value_rows.specs.{ArePlaces}
use Rattle.value_rows.proofs.places.map_of.Given as goal

abbrev pub invariant-loop-i : goal.invariant-loop-i
invariant-loop-i l = record {
  places : ArePlaces l.map (take l.i l.names);
  named : All IsName (take l.i l.names);
}
