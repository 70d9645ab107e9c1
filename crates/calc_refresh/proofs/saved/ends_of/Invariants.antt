use Rattle.std.proofs.Common.{◌≡◌, ◌≤◌, length, map, take, vec_len, vec_capacity}
use Rattle.sheet_law.specs.{kept_end}
use Rattle.calc_refresh.specs.{lists_of}
use Rattle.calc_refresh.proofs.saved.ends_of.Given as goal

abbrev pub invariant-loop-copy : goal.invariant-loop-copy
invariant-loop-copy l = record {
  ended : l.ends.items ≡ map kept_end (lists_of (take l.copy-index l.copies));
  counted : vec_len l.ends ≡ l.copy-index;
  room : length l.copies ≤ vec_capacity l.ends;
}
