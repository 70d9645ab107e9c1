use Rattle.std.proofs.Common.{◌≡◌, ℕ, ◌≤◌, get_or, take}
use Rattle.std.specs.Prelude.{Vec}
use Rattle.std.specs.declared.alloc.Global.{Global}
use Rattle.trend_num.specs.{CalcValue}
use Rattle.calc_refresh.specs.{lists_of}
use Rattle.group_book.proofs.saved_rows.bring_rows.Given as goal

abbrev pub invariant-loop-i : goal.invariant-loop-i
invariant-loop-i l = record {
  brought : lists_of (take l.i l.saved) ≡ lists_of (take l.i l.rows);
  rest : (j : ℕ) (d : Vec CalcValue Global) → l.i ≤ j → get_or l.saved j d ≡ get_or l.initial.saved j d;
}
