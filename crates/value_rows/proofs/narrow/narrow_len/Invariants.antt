use Rattle.std.proofs.Common.{◌<◌, take}
use Rattle.value_rows.proofs.Scanned.{IsScanned}
use Rattle.value_rows.proofs.narrow.narrow_len.Given as goal

abbrev pub invariant-loop-i : goal.invariant-loop-i
invariant-loop-i l = record {
  scanned : IsScanned (take l.i l.text) l.part l.ended;
  few : l.ended < 4;
}
