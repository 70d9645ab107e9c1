use Rattle.std.proofs.Common.{◌≡◌, ◌≤◌, length, map, take, vec_len, vec_capacity}
use Rattle.trend_model.specs.{listed}
use Rattle.calc_refresh.specs.{lists_of}
use Rattle.calc_refresh.proofs.saved.contents_of.Given as goal

abbrev pub invariant-loop-copy : goal.invariant-loop-copy
invariant-loop-copy l = record {
  read : map (λ c. c.records) l.contents.items ≡ map listed (lists_of (take l.copy-index l.copies));
  counted : vec_len l.contents ≡ l.copy-index;
  room : length l.copies ≤ vec_capacity l.contents;
}
