use Rattle.std.proofs.Common.{All, ◌≡◌, length}
use Rattle.value_rows.specs.{IsHint}
use Rattle.value_rows.proofs.places.hints_of.Given as goal

abbrev pub invariant-loop-name : goal.invariant-loop-name
invariant-loop-name l = record {
  slots : length l.hints.items ≡ 16384;
  hints : All (IsHint l.names) l.hints.items;
}
