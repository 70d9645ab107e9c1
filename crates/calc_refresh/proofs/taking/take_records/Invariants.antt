use Rattle.std.proofs.Common.{◌≡◌, ℕ, ◌+◌, ◌<◌, ◌≤◌, ◌++◌, length, take, All, vec_len, vec_capacity}
use Rattle.std.specs.Prelude.{◌||◌}
use Rattle.trend_num.specs.{last_time}
use Rattle.trend_model.specs.{listed}
use Rattle.sheet_law.specs.{kept_end, window_from, window_to, is_touched}
use Rattle.calc_refresh.specs.{is_marked}
use Rattle.calc_refresh.proofs.taking.take_records.Given as goal

abbrev pub invariant-loop-rec : goal.invariant-loop-rec
invariant-loop-rec l = record {
  copied : l.copy.items ≡ l.initial.copy.items ++ take l.rec-index l.recs;
  read : l.content.records ≡ listed l.copy.items;
  times : All (λ r. r.point.t ≤ last_time) l.content.records;
  ended : l.end ≡ kept_end l.copy.items;
  spare : length l.recs ≤ l.content.spare + l.rec-index;
  room : vec_len l.copy + length l.recs ≤ vec_capacity l.copy + l.rec-index;
  marked : (k : ℕ) → k < length l.marks → is_marked l.marks k
      ≡ (is_marked l.initial.marks k
      || is_touched l.initial.copy.items (take l.rec-index l.recs) (window_from l.grid k) (window_to l.grid k));
}
