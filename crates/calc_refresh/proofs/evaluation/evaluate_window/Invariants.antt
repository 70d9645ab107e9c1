use Rattle.std.proofs.Common.{◌≡◌, ◌≢◌, ℕ, ◌+◌, Some, length, map, take, vec_len}
use Rattle.sheet_law.specs.{points_in, values, column}
use Rattle.calc_refresh.specs.{lists_of}
use Rattle.calc_refresh.proofs.evaluation.evaluate_window.Given as goal

abbrev pub invariant-loop-i : goal.invariant-loop-i
invariant-loop-i g l = record {
  places : length l.lower ≡ 64;
  before : take l.i l.lower ≡ take l.i (values l.calcs (points_in l.contents) l.from l.to);
  filled : take l.i (column l.k (lists_of l.rows)) ≡ map Some (take l.i (values l.calcs (points_in l.contents) l.from l.to));
  others : (j : ℕ) → j ≢ l.k → column j (lists_of l.rows) ≡ column j (lists_of l.initial.rows);
  lengths : map (λ row. vec_len row) l.rows ≡ map (λ row. vec_len row) l.initial.rows;
  counted : l.steps ≡ l.initial.steps + l.i;
}
