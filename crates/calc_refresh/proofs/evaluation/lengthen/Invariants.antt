use Rattle.std.proofs.Common.{◌≡◌, ℕ, ◌<◌, ◌≤◌, All, get_or, vec_len}
use Rattle.std.specs.Prelude.{Vec}
use Rattle.std.specs.declared.alloc.Global.{Global}
use Rattle.trend_num.specs.{CalcValue}
use Rattle.sheet_law.specs.{column}
use Rattle.calc_refresh.specs.{lists_of}
use Rattle.calc_refresh.proofs.evaluation.lengthen.Given as goal

abbrev pub invariant-loop-i : goal.invariant-loop-i
invariant-loop-i l = record {
  done : (j : ℕ) (d : Vec CalcValue Global) → j < l.i → vec_len (get_or l.rows j d) ≡ l.windows;
  rest : (j : ℕ) (d : Vec CalcValue Global) → l.i ≤ j → get_or l.rows j d ≡ get_or l.initial.rows j d;
  columns : (k : ℕ) → All (λ row. k < vec_len row) l.initial.rows → k < l.windows
      → column k (lists_of l.rows) ≡ column k (lists_of l.initial.rows);
}
