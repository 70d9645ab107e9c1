use Rattle.std.proofs.Common.{◌≡◌, ℕ, ◌+◌, ◌*◌, Contains, Some, length, map, take, vec_len}
use Rattle.sheet_law.specs.{points_in, values, window_from, window_to, column}
use Rattle.calc_refresh.specs.{lists_of}
use Rattle.calc_refresh.proofs.evaluation.evaluate.Given as goal

abbrev pub invariant-loop-k : goal.invariant-loop-k
invariant-loop-k g l = record {
  filled : (j : ℕ) → Contains (take l.k-index l.due) j → column j (lists_of l.rows)
      ≡ map Some (values l.calcs (points_in l.contents) (window_from l.grid j) (window_to l.grid j));
  others : (j : ℕ) → (Contains (take l.k-index l.due) j → ⊥) → column j (lists_of l.rows) ≡ column j (lists_of l.initial.rows);
  lengths : map (λ row. vec_len row) l.rows ≡ map (λ row. vec_len row) l.initial.rows;
  stepped : l.steps ≡ l.initial.steps + l.k-index * length l.rows;
}
